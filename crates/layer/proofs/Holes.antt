-- Which of some places is the first hole.
use Rattle.std.proofs.Common.{◌≡◌, ℕ, zero, suc, ◌<◌, ◌⊎◌, Some, None, Option, sym, refl, ap, ◌∙◌, subst, ⊎_elim, arith, rules}
use Rattle.picture.specs.declared.fault.Fault.{Fault}
use Rattle.picture.specs.Places.{Place, fault_of, or_else, first_fault}

below_suc : (k n : ℕ) → k < suc n → (k < n) ⊎ (k ≡ n)
below_suc k n h = search rules

or_none : {X : Type 0} (x y : Option X) → or_else x y ≡ None → (x ≡ None) × (y ≡ None)
or_none None y e = (refl, e)
or_none (Some x) y e = let z : ◌≡◌ {A = ℕ} 0 1 = cc in absurd (omega arith)

-- where there is no fault, no place is a hole
pub none_each : {K : Type 0} (f : ℕ → Place K) (n : ℕ) → first_fault f n ≡ None → (k : ℕ) → k < n → fault_of (f k) ≡ None
none_each f zero e k h = absurd (omega arith)
none_each f (suc n) e k h =
    let w = or_none (first_fault f n) (fault_of (f n)) e in
    ⊎_elim (λ lt. none_each f n w.0 k lt) (λ q. subst (λ j. fault_of (f j) ≡ None) (sym q) w.1) (below_suc k n h)

pub each_none : {K : Type 0} (f : ℕ → Place K) (n : ℕ) → ((k : ℕ) → k < n → fault_of (f k) ≡ None) → first_fault f n ≡ None
each_none f zero h = refl
each_none f (suc n) h = ap (λ x. or_else x (fault_of (f n))) (each_none f n (λ k lt. h k (omega arith))) ∙ h n (omega arith)

-- the first hole among n places, and its fault
pub record First {K : Type 0} (f : ℕ → Place K) (n : ℕ) (e : Fault) : Type 0 where
  pub index : ℕ
  pub below : index < n
  pub here : fault_of (f index) ≡ Some e
  pub earlier : (k : ℕ) → k < index → fault_of (f k) ≡ None

pub first_some : {K : Type 0} (f : ℕ → Place K) (n : ℕ) (e : Fault) → first_fault f n ≡ Some e → First f n e
first_some f zero e h = let z : ◌≡◌ {A = ℕ} 0 1 = cc in absurd (omega arith)
first_some f (suc n) e h = at (first_some f n) (first_fault f n) refl h
  where
    at : ((d : Fault) → first_fault f n ≡ Some d → First f n d) → (x : Option Fault) → first_fault f n ≡ x → or_else x (fault_of (f n)) ≡ Some e → First f (suc n) e
    at again None q r = record { index = n; below = omega arith; here = r; earlier = none_each f n q }
    at again (Some d) q r =
        let w = again e (q ∙ r) in
        record { index = w.index; below = omega (arith, w.below); here = w.here; earlier = w.earlier }

pub some_first : {K : Type 0} (f : ℕ → Place K) (n : ℕ) (e : Fault) → First f n e → first_fault f n ≡ Some e
some_first f zero e w = absurd (omega (arith, w.below))
some_first f (suc n) e w =
    ⊎_elim (λ lt. ap (λ x. or_else x (fault_of (f n))) (some_first f n e (record { index = w.index; below = lt; here = w.here; earlier = w.earlier })))
    (λ q. ap (λ x. or_else x (fault_of (f n))) (each_none f n (λ k lt. w.earlier k (omega arith))) ∙ ap (λ k. fault_of (f k)) (sym q) ∙ w.here)
    (below_suc w.index n w.below)

-- places named by others: g has the places of f, and none that f does not name stands before one that it names
pub record Covers (t : ℕ → ℕ) (n m : ℕ) : Type 0 where
  pub inside : (k : ℕ) → k < n → t k < m
  pub sooner : (k j : ℕ) → k < n → j < t k → (i : ℕ) × (i < k) × (t i ≡ j)
  pub onto : (j : ℕ) → j < m → (i : ℕ) × (i < n) × (t i ≡ j)

pub first_covered : {K : Type 0} (g : ℕ → Place K) (t : ℕ → ℕ) (n m : ℕ) → Covers t n m → first_fault (λ k. g (t k)) n ≡ first_fault g m
first_covered g t n m c = at (first_fault (λ k. g (t k)) n) refl
  where
    at : (x : Option Fault) → first_fault (λ k. g (t k)) n ≡ x → first_fault (λ k. g (t k)) n ≡ first_fault g m
    at None q =
        q ∙ sym (each_none g m (λ j lt. let w = c.onto j lt in subst (λ z. fault_of (g z) ≡ None) w.2 (none_each (λ k. g (t k)) n q w.0 w.1)))
    at (Some e) q =
        let w = first_some (λ k. g (t k)) n e q in
        q ∙ sym (some_first g m e (record {
          index = t w.index;
          below = c.inside w.index w.below;
          here = w.here;
          earlier = λ j lt. let v = c.sooner w.index j w.below lt in subst (λ z. fault_of (g z) ≡ None) v.2 (w.earlier v.0 v.1);
        }))
