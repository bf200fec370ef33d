-- A row, place by place.
use Rattle.std.proofs.Common.{◌≡◌, ℕ, ◌+◌, ◌<◌, ◌≢◌, ◌⊎◌, List, length, get_or, set, Some, Ok, Err, sym, ap, ◌∙◌, ⊎_elim, arith, rules}
use Rattle.std.proofs.lemmas.List.{get_or-set_same, get_or-set_other}
use Rattle.pixel.specs.Ops.{Ops}
use Rattle.picture.specs.declared.fault.Fault.{Fault}
use Rattle.picture.specs.Places.{Place, pixel, hole, fault_of}
use Rattle.picture.specs.Prepare.{Shown, coded, first_in, or_fault}
use Rattle.picture.proofs.Faults.{shown_clean}
use Rattle.layer.specs.Layers.{located}
use Rattle.layer.proofs.Holes.{none_each, some_first}

module _ {K S : Type 0} (o : Ops K S) where
  pub located-coded : (p : Place K) (c : ℕ) → Ok c ≡ located o p → coded o p ≡ Some c
  located-coded (pixel k) c e = let q : o.code k ≡ c = cc in ap Some q
  located-coded (hole f) c e = cc

  located_fault : (p : Place K) (f : Fault) → Err f ≡ located o p → fault_of p ≡ Some f
  located_fault (pixel k) f e = cc
  located_fault (hole g) f e = let q : g ≡ f = cc in ap Some q

  -- one more code
  pub shown-next : (f : ℕ → Place K) (out : List ℕ) (k code : ℕ) → k < length out → Shown o f k out → Ok code ≡ located o (f k) → Shown o f (k + 1) (set out k code)
  shown-next f out k code h s e j l =
      ⊎_elim (λ lt. let ne : j ≢ k = omega arith in s j lt ∙ ap Some (sym (get_or-set_other out k j code 0 ne)))
      (λ eq. ap (λ z. coded o (f z)) eq ∙ located-coded (f k) code e ∙ ap Some (sym (ap (λ z. get_or (set out k code) z 0) eq ∙ get_or-set_same out k code 0 h)))
      (below_or j k l)
    where
      below_or : (j k : ℕ) → j < k + 1 → (j < k) ⊎ (j ≡ k)
      below_or j k h = search rules

  -- the next place is the first hole
  pub hole_next : (f : ℕ → Place K) (out : List ℕ) (k n : ℕ) (e : Fault) → k < n → Shown o f k out → Err e ≡ located o (f k) → Err e ≡ first_in f n
  hole_next f out k n e h s q =
      ap or_fault (sym (some_first f n e (record { index = k; below = h; here = located_fault (f k) e q; earlier = none_each f k (shown_clean o f k out s) })))
