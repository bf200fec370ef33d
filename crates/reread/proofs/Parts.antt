-- Parts of one length, written one behind another, by their places.
use Rattle.std.proofs.Common.{◌≡◌, ℕ, zero, suc, ◌+◌, ◌-◌, ◌*◌, ◌<◌, List, [], ◌∷◌, ◌++◌, length, get_or, ap, ◌∙◌, zero-mul, arith}
use Rattle.std.specs.List.{flat_map}
use Rattle.std.proofs.lemmas.List.{get_or_append_left, get_or-append_right}
use Rattle.writer.proofs.Joins.{times_suc}

pub part_at : {X A : Type 0} (f : X → List A) (n : ℕ) (e : X) (d : A) (xs : List X) → ((k : ℕ) → k < length xs → length (f (get_or xs k e)) ≡ n)
    → (k j : ℕ) → k < length xs → j < n → get_or (flat_map f xs) (k * n + j) d ≡ get_or (f (get_or xs k e)) j d
part_at f n e d [] h k j l m = absurd (omega arith)
part_at f n e d (x ∷ xs) h zero j l m =
    let z : 0 * n + j ≡ j = omega (arith, zero-mul n) in
    ap (λ q. get_or (f x ++ flat_map f xs) q d) z ∙ get_or_append_left (f x) (flat_map f xs) d j (omega (arith, h 0 (omega arith)))
part_at f n e d (x ∷ xs) h (suc k) j l m =
    let z : suc k * n + j - n ≡ k * n + j = omega (arith, times_suc k n) in
    get_or-append_right (f x) (flat_map f xs) n (suc k * n + j) d (h 0 (omega arith)) (omega (arith, times_suc k n))
    ∙ ap (λ q. get_or (flat_map f xs) q d) z ∙ part_at f n e d xs (λ i a. h (suc i) (omega arith)) k j (omega arith) m
