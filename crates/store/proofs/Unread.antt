-- What a read of a slice answers, some of whose sectors are unread.
use Rattle.std.proofs.Common.{◌≡◌, ℕ, ◌+◌, ◌-◌, ◌*◌, ◌/◌, ◌^◌, ◌<◌, ◌≤◌, min, max, Bool, true, false, eqb, List, length, get_or, Ok, Err, Result, sym, refl, ap, ◌∙◌, ⊎_elim, arith}
use Rattle.std.specs.List.{IsAnyAnswer}
use Rattle.std.proofs.lemmas.List.Elements.{contains_decides}
use Rattle.std.proofs.lemmas.Bool.{cases_lt}
use Rattle.std.proofs.lemmas.Bool.Decides.{nat_tests, Decides-by_or, Decides-eqb, same_from_decides}
use Rattle.store.specs.declared.lack.Lack.{Lack}
use Rattle.store.specs.declared.lack.Lack.TheVariants.{Unread}
use Rattle.store.specs.Cells.{byte, unread, capped}
use Rattle.store.specs.Reads.{answer, filled}
use Rattle.store.specs.Stores.{in_bytes, in_sectors, listed}
use Rattle.store.proofs.Answering.{answer_by, answer_each, answer_same, answer_stop, filled_same, Read}
use Rattle.store.proofs.Slices.{byte_at}

-- what a search of the list finds
pub found : (xs : List ℕ) (n : ℕ) (r : Bool) → IsAnyAnswer (λ y t. eqb y n ≡ t) xs r → r ≡ listed xs n
found xs n r h =
    same_from_decides r (listed xs n) (contains_decides eqb Decides-eqb xs n r h)
    (Decides-by_or (λ x. eqb x n) (λ x. x ≡ n) (λ l. listed l n) (λ x. Decides-eqb x n) refl (λ _ _. refl) xs)

-- outside the listed sectors stand the slice's bytes
pub readable : (bs bad : List ℕ) (q : ℕ) → listed bad (q / 2048) ≡ false → capped (in_sectors bs bad) q ≡ capped (in_bytes bs) q
readable bs bad q h = rw h

pub behind : (bs bad : List ℕ) (q : ℕ) → min (2 ^ 48) (length bs) ≤ q → capped (in_sectors bs bad) q ≡ capped (in_bytes bs) q
behind bs bad q h = grind (arith, nat_tests)

unread_at : (bs bad : List ℕ) (q : ℕ) → q < min (2 ^ 48) (length bs) → listed bad (q / 2048) ≡ true → capped (in_sectors bs bad) q ≡ unread
unread_at bs bad q h e = grind (arith, nat_tests)

byte_in : (bs bad : List ℕ) (q b : ℕ) → capped (in_sectors bs bad) q ≡ byte b → capped (in_sectors bs bad) q ≡ capped (in_bytes bs) q
byte_in bs bad q b e = grind (arith, nat_tests)

-- where none of the places in the slice is in a listed sector, the slice answers
pub none_unread : (bs bad : List ℕ) (p n s : ℕ) → min (min (2 ^ 48) (length bs)) (p + n) ≤ s
    → ((q : ℕ) → p ≤ q → q < s → listed bad (q / 2048) ≡ false)
    → answer (capped (in_sectors bs bad)) p n ≡ answer (capped (in_bytes bs)) p n
none_unread bs bad p n s i h =
    answer_same (capped (in_sectors bs bad)) (capped (in_bytes bs)) p p n refl
    (λ k l. ⊎_elim (λ b. readable bs bad (p + k) (h (p + k) (omega arith) b)) (λ b. behind bs bad (p + k) (omega arith)) (cases_lt (p + k) s))

-- none of the places from p on, before sector k, is in a listed sector
abbrev pub Clear : List ℕ → ℕ → ℕ → Type 0
Clear bad p k = (q : ℕ) → p ≤ q → q < k * 2048 → listed bad (q / 2048) ≡ false

-- the first place of a listed sector is named
pub first_unread : (bs bad : List ℕ) (p n k q s : ℕ) → s ≡ min (min (2 ^ 48) (length bs)) (min (p + n) (2 ^ 64 - 1)) → q ≡ max p (k * 2048) → p / 2048 ≤ k → q < s
    → Clear bad p k → listed bad k ≡ true → answer (capped (in_sectors bs bad)) p n ≡ Err (Unread q)
first_unread bs bad p n k q s i m l u h e =
    let z : p + (q - p) ≡ q = omega arith in
    let w : q / 2048 ≡ k = omega arith in
    answer_stop (capped (in_sectors bs bad)) p (q - p) n unread (Unread q) (omega arith)
    (answer_by (capped (in_sectors bs bad)) p (q - p)
    (λ j d. (get_or bs (p + j) 0, readable bs bad (p + j) (h (p + j) (omega arith) (omega arith)) ∙ byte_at bs (p + j) (omega arith))))
    (ap (capped (in_sectors bs bad)) z ∙ unread_at bs bad q (omega arith) (ap (listed bad) w ∙ e)) (λ r. ap (λ y. Err (Unread y)) z)

pub clear_more : (bad : List ℕ) (p k : ℕ) → Clear bad p k → listed bad k ≡ false → Clear bad p (k + 1)
clear_more bad p k h e q l u =
    ⊎_elim (h q l) (λ d. let w : q / 2048 ≡ k = omega arith in ap (listed bad) w ∙ e) (cases_lt q (k * 2048))

-- where a read is answered, a read of the slice serves
pub served : (bs bad : List ℕ) (p : ℕ) (old : List ℕ) (r : Result Unit Lack) (new : List ℕ) → answer (capped (in_sectors bs bad)) p (length old) ≡ Ok tt
    → r ≡ answer (capped (in_bytes bs)) p (length old) → new ≡ filled (capped (in_bytes bs)) p old → Read (capped (in_sectors bs bad)) p old r new
served bs bad p old r new e a l =
    let f = capped (in_sectors bs bad) in
    let g = capped (in_bytes bs) in
    let same : (k : ℕ) → k < length old → capped (in_bytes bs) (p + k) ≡ capped (in_sectors bs bad) (p + k) =
    λ k d. let y = answer_each f p (length old) k d e in sym (byte_in bs bad (p + k) y.0 y.1) in
    record { answered = a ∙ answer_same g f p p (length old) refl same; left = l ∙ filled_same g f p old same }
