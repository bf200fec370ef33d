-- What a read of a slice's bytes answers.
use Rattle.std.proofs.Common.{◌≡◌, ℕ, ◌+◌, ◌-◌, ◌^◌, ◌<◌, ◌≤◌, min, max, List, length, get_or, take, drop, Ok, Err, sym, ap, ◌∙◌, arith}
use Rattle.std.proofs.lemmas.List.{length-take, length-drop, get_or-take, get_or-drop}
use Rattle.std.proofs.lemmas.Bool.Decides.{nat_tests}
use Rattle.store.specs.declared.lack.Lack.TheVariants.{Missing}
use Rattle.store.specs.Cells.{byte, missing, capped}
use Rattle.store.specs.Reads.{answer, filled, value}
use Rattle.store.specs.Stores.{in_bytes}
use Rattle.store.proofs.Answering.{answer_by, answer_each, answer_stop, byte_below, fills}

pub byte_at : (bs : List ℕ) (q : ℕ) → q < min (2 ^ 48) (length bs) → capped (in_bytes bs) q ≡ byte (get_or bs q 0)
byte_at bs q h = grind (arith, nat_tests)

pub none_at : (bs : List ℕ) (q : ℕ) → min (2 ^ 48) (length bs) ≤ q → capped (in_bytes bs) q ≡ missing
none_at bs q h = grind (arith, nat_tests)

pub all_bytes : (bs : List ℕ) (p n : ℕ) → n ≤ min (2 ^ 48) (length bs) - p → answer (capped (in_bytes bs)) p n ≡ Ok tt
all_bytes bs p n h = answer_by (capped (in_bytes bs)) p n (λ k l. (get_or bs (p + k) 0, byte_at bs (p + k) (omega arith)))

pub cut_off : (bs : List ℕ) (p n e : ℕ) → min (2 ^ 48) (length bs) ≡ e → e - p < n → answer (capped (in_bytes bs)) p n ≡ Err (Missing (max p e))
cut_off bs p n e i h =
    let q : p + (e - p) ≡ max p e = omega arith in
    answer_stop (capped (in_bytes bs)) p (e - p) n missing (Missing (max p e)) h (all_bytes bs p (e - p) (omega arith))
    (none_at bs (p + (e - p)) (omega arith)) (λ r. ap (λ z. Err (Missing z)) q)

pub in_slice : (bs : List ℕ) (q b : ℕ) → capped (in_bytes bs) q ≡ byte b → q < length bs
in_slice bs q b e = grind (arith, nat_tests)

-- a read that is answered lies in the slice
pub range : (bs : List ℕ) (p n : ℕ) → answer (capped (in_bytes bs)) p n ≡ Ok tt → 0 < n → (p + n ≤ length bs) × (p + n ≤ 2 ^ 48)
range bs p n e h =
    let y = answer_each (capped (in_bytes bs)) p n (n - 1) (omega arith) e in
    let i = in_slice bs (p + (n - 1)) y.0 y.1 in
    let j = byte_below (in_bytes bs) (p + (n - 1)) y.0 y.1 in
    (omega arith, omega arith)

-- a copy of the slice's part is what the read leaves
pub copied : (bs : List ℕ) (p n : ℕ) (old new : List ℕ) → answer (capped (in_bytes bs)) p (length old) ≡ Ok tt → 0 < length old → n ≡ length old
    → new ≡ take n (drop p bs) → new ≡ filled (capped (in_bytes bs)) p old
copied bs p n old new a h i e0 =
    let e : new ≡ take (length old) (drop p bs) = e0 ∙ ap (λ z. take z (drop p bs)) i in
    let r = range bs p (length old) a h in
    let l : length (take (length old) (drop p bs)) ≡ length old = simp (length-take, length-drop) (omega (arith, r.0)) in
    fills (capped (in_bytes bs)) p old new a (ap length e ∙ l)
    (λ k j. ap (λ x. get_or x k 0) e ∙ get_or-take (length old) (drop p bs) k 0 j ∙ get_or-drop p bs k 0 ∙ sym (ap value (byte_at bs (p + k) (omega (arith, r.0, r.1)))))
