-- What a read of two joined stores answers: f and g are what stands at the places of the first and of the second.
use Rattle.std.proofs.Common.{◌≡◌, ℕ, zero, suc, ◌+◌, ◌-◌, ◌^◌, ◌<◌, ◌≤◌, min, max, List, ◌++◌, length, get_or, Ok, Err, Result, sym, refl, ap, ◌∙◌, ⊎_elim, add-zero, arith}
use borrow.Rule.Slice.PartMut.{put_mid, post_of}
use Rattle.std.proofs.lemmas.List.{take_at, get_or_append_left, get_or-append_right}
use Rattle.std.proofs.lemmas.Bool.{cases_lt}
use Rattle.std.proofs.lemmas.Bool.Decides.{nat_tests}
use Rattle.store.specs.declared.lack.Lack.{Lack}
use Rattle.store.specs.declared.lack.Lack.TheVariants.{Missing}
use Rattle.store.specs.Cells.{Cell, byte, missing, unread, capped}
use Rattle.store.specs.Reads.{answer, before, filled, place_of, value}
use Rattle.store.specs.Stores.{in_joined, lack_behind}
use Rattle.store.proofs.Answering.{answer_each, answer_front, answer_past, answer_refused, answer_same, answer_stop, byte_below, filled_at, fills, stop}

-- what a store answers, in a store that has it behind d places
abbrev pub moved : ℕ → Result Unit Lack → Result Unit Lack
moved d (Ok u) = Ok u
moved d (Err x) = Err (lack_behind d x)

moved_before : (x : Cell) (d q : ℕ) (r : Result Unit Lack) → before x (d + q) (moved d r) ≡ moved d (before x q r)
moved_before (byte _) d q r = refl
moved_before missing d q r = refl
moved_before unread d q r = refl

moved_ok : (d : ℕ) (r : Result Unit Lack) → moved d r ≡ Ok tt → r ≡ Ok tt
moved_ok d (Ok u) e = refl
moved_ok d (Err x) e = cc

-- where f has from p on what g has from q on
pub answer-moved : (f g : ℕ → Cell) (p q d n : ℕ) → (0 < n → p ≡ d + q) → ((k : ℕ) → k < n → f (p + k) ≡ g (q + k)) → answer f p n ≡ moved d (answer g q n)
unfolding answer
answer-moved f g p q d zero i h = refl
answer-moved f g p q d (suc n) i h =
    let z : p ≡ d + q = i (omega arith) in
    let here : f p ≡ g q = ap f (sym (add-zero p)) ∙ h 0 (omega arith) ∙ ap g (add-zero q) in
    let rest : answer f (p + 1) n ≡ moved d (answer g (q + 1) n) =
    answer-moved f g (p + 1) (q + 1) d n (λ _. omega arith)
    (λ k l. let a : p + 1 + k ≡ p + suc k = omega arith in let b : q + suc k ≡ q + 1 + k = omega arith in ap f a ∙ h (suc k) (omega arith) ∙ ap g b) in
    ap (λ x. before x p (answer f (p + 1) n)) here ∙ ap (before (g q) p) rest
    ∙ ap (λ y. before (g q) y (moved d (answer g (q + 1) n))) z ∙ moved_before (g q) d q (answer g (q + 1) n)

-- the parts of a read of n places from p on: inside are below the end of all stores, low of them the first's; the second is read from q on
pub record Parts (p n from inside low q : ℕ) : Type 0 where
  pub below : inside ≡ min n (2 ^ 48 - p)
  pub first : low ≡ min inside (from - p)
  pub second : q ≡ p - from

pub parts : {p n from e inside d low q : ℕ} → e ≡ 2 ^ 48 - p → inside ≡ min n e → d ≡ from - p → low ≡ min inside d → q ≡ p - from → Parts p n from inside low q
parts a b c d e = record { below = omega arith; first = omega arith; second = e }

in_first : (f : ℕ → Cell) (n : ℕ) (g : ℕ → Cell) (q : ℕ) → q < n → q < 2 ^ 48 → capped (in_joined f n g) q ≡ f q
in_first f n g q h l = grind (arith, nat_tests)

in_second : (f : ℕ → Cell) (n : ℕ) (g : ℕ → Cell) (q r : ℕ) → n ≤ q → q - n ≡ r → q < 2 ^ 48 → capped (in_joined f n g) q ≡ g r
in_second f n g q r h i l = grind (arith, nat_tests)

past_end : (f : ℕ → Cell) (q : ℕ) → 2 ^ 48 ≤ q → capped f q ≡ missing
past_end f q h = grind (arith, nat_tests)

first_cell : {p n from inside low q : ℕ} (f g : ℕ → Cell) (k : ℕ) → Parts p n from inside low q → k < low → capped (in_joined f from g) (p + k) ≡ f (p + k)
first_cell {p} {n} {from} {inside} {low} {q} f g k s h = in_first f from g (p + k) (omega arith) (omega arith)

second_cell : {p n from inside low q : ℕ} (f g : ℕ → Cell) (k : ℕ) → Parts p n from inside low q → k < inside - low → capped (in_joined f from g) (p + low + k) ≡ g (q + k)
second_cell {p} {n} {from} {inside} {low} {q} f g k s h = in_second f from g (p + low + k) (q + k) (omega arith) (omega arith) (omega arith)

-- the first answers for its part
pub first_part : {p n from inside low q : ℕ} (f g : ℕ → Cell) → Parts p n from inside low q → answer (capped (in_joined f from g)) p low ≡ answer f p low
first_part {p} {n} {from} {inside} {low} {q} f g s = answer_same (capped (in_joined f from g)) f p p low refl (λ k h. first_cell f g k s h)

-- then the second for its part
pub both_parts : {p n from inside low q : ℕ} (f g : ℕ → Cell) → Parts p n from inside low q → answer f p low ≡ Ok tt
    → answer (capped (in_joined f from g)) p inside ≡ moved from (answer g q (inside - low))
both_parts {p} {n} {from} {inside} {low} {q} f g s e =
    let z : inside ≡ low + (inside - low) = omega arith in
    ap (answer (capped (in_joined f from g)) p) z ∙ answer_past (capped (in_joined f from g)) p low (inside - low) (first_part f g s ∙ e)
    ∙ answer-moved (capped (in_joined f from g)) g (p + low) q from (inside - low) (λ h. omega arith) (λ k h. second_cell f g k s h)

-- a lack of the first is one of both
pub first_refuses : {p n from inside low q : ℕ} (f g : ℕ → Cell) (x : Lack) → Parts p n from inside low q → Err x ≡ answer f p low → Err x ≡ answer (capped (in_joined f from g)) p n
first_refuses {p} {n} {from} {inside} {low} {q} f g x s e =
    sym (answer_refused (capped (in_joined f from g)) p low n x (omega arith) (first_part f g s ∙ sym e))

-- a lack of the second is one of both, from places further on
pub second_refuses : {p n from inside low q : ℕ} (f g : ℕ → Cell) (x y : Lack) → Parts p n from inside low q → Ok tt ≡ answer f p low
    → Err x ≡ answer g q (inside - low) → y ≡ lack_behind from x → Err y ≡ answer (capped (in_joined f from g)) p n
second_refuses {p} {n} {from} {inside} {low} {q} f g x y s e i m =
    ap Err m ∙ sym (answer_refused (capped (in_joined f from g)) p inside n (lack_behind from x) (omega arith) (both_parts f g s (sym e) ∙ ap (moved from) (sym i)))

-- and stands below the end of all stores
pub second_below : {p n from inside low q : ℕ} (g : ℕ → Cell) (x : Lack) → Parts p n from inside low q → Err x ≡ answer g q (inside - low) → from + place_of x < 2 ^ 48
second_below {p} {n} {from} {inside} {low} {q} g x s e =
    let t = stop g q (inside - low) x (sym e) in omega (arith, t.within, t.place)

-- behind the bytes of both, the end of all stores is missing
pub end_refuses : {p n from inside low q m : ℕ} (f g : ℕ → Cell) → Parts p n from inside low q → Ok tt ≡ answer f p low → Ok tt ≡ answer g q (inside - low)
    → inside < n → m ≡ max p (2 ^ 48) → Err (Missing m) ≡ answer (capped (in_joined f from g)) p n
end_refuses {p} {n} {from} {inside} {low} {q} {m} f g s e i h j =
    let z : p + inside ≡ m = omega arith in
    sym (answer_stop (capped (in_joined f from g)) p inside n missing (Missing m) h (both_parts f g s (sym e) ∙ ap (moved from) (sym i))
    (past_end (in_joined f from g) (p + inside) (omega arith)) (λ r. ap (λ y. Err (Missing y)) z))

pub both_answer : {p n from inside low q : ℕ} (f g : ℕ → Cell) → Parts p n from inside low q → Ok tt ≡ answer f p low → Ok tt ≡ answer g q (inside - low)
    → n ≤ inside → Ok tt ≡ answer (capped (in_joined f from g)) p n
both_answer {p} {n} {from} {inside} {low} {q} f g s e i h =
    let z : n ≡ inside = omega arith in
    sym (ap (answer (capped (in_joined f from g)) p) z ∙ both_parts f g s (sym e) ∙ ap (moved from) (sym i))

-- the parts of a read that is answered: all of it is below the end of all stores
answered_parts : (f : ℕ → Cell) (p n from low q : ℕ) → answer (capped f) p n ≡ Ok tt → low ≡ min n (from - p) → q ≡ p - from → Parts p n from n low q
answered_parts f p n from low q e i j =
    let inside : n ≤ 2 ^ 48 - p =
    ⊎_elim (λ h. let y = answer_each (capped f) p n (n - 1) (omega arith) e in omega (arith, byte_below f (p + (n - 1)) y.0 y.1)) (λ h. omega arith) (cases_lt 0 n) in
    record { below = omega arith; first = i; second = j }

-- what both parts read is what the read leaves
pub both_read : (f g : ℕ → Cell) (p from low q m : ℕ) (old oa ob a b post new : List ℕ) → Ok tt ≡ answer (capped (in_joined f from g)) p (length old)
    → low ≡ min (length old) (from - p) → q ≡ p - from → length oa ≡ low → length ob ≡ length old - low
    → length a ≡ length oa → a ≡ filled f p oa → length b ≡ length ob → b ≡ filled g q ob
    → length new ≡ length old → new ≡ put_mid low m (a ++ post) b → new ≡ filled (capped (in_joined f from g)) p old
both_read f g p from low q m old oa ob a b post new e0 i j la lb na ia nb ib ln i0 =
    let e = sym e0 in
    let s = answered_parts (in_joined f from g) p (length old) from low q e i j in
    let n = length old in
    let rest : List ℕ = post_of low m (a ++ post) in
    let split : new ≡ a ++ (b ++ rest) = i0 ∙ ap (λ z. z ++ (b ++ rest)) (take_at a post low (na ∙ la)) in
    let z : low + (length old - low) ≡ length old = omega arith in
    let fine-a : answer f p low ≡ Ok tt = sym (first_part f g s) ∙ answer_front (capped (in_joined f from g)) p low (n - low) (ap (answer (capped (in_joined f from g)) p) z ∙ e) in
    let fine-b : answer g q (length old - low) ≡ Ok tt = moved_ok from (answer g q (n - low)) (sym (both_parts f g s fine-a) ∙ e) in
    fills (capped (in_joined f from g)) p old new e ln (λ k d. ap (λ x. get_or x k 0) split ∙ ⊎_elim
    (λ l. get_or_append_left a (b ++ rest) 0 k (omega arith) ∙ ap (λ x. get_or x k 0) ia ∙ filled_at f p oa k (ap (answer f p) la ∙ fine-a) (omega arith)
    ∙ ap value (sym (first_cell f g k s l)))
    (λ l. let w : p + low + (k - low) ≡ p + k = omega arith in
    get_or-append_right a (b ++ rest) low k 0 (na ∙ la) l ∙ get_or_append_left b rest 0 (k - low) (omega arith) ∙ ap (λ x. get_or x (k - low) 0) ib
    ∙ filled_at g q ob (k - low) (ap (answer g q) lb ∙ fine-b) (omega arith)
    ∙ ap value (sym (second_cell f g (k - low) s (omega arith))) ∙ ap (λ y. value (capped (in_joined f from g) y)) w)
    (cases_lt k low))
