-- The first fault among places.
use Rattle.std.proofs.Common.{◌≡◌, ℕ, zero, suc, ◌+◌, ◌-◌, ◌<◌, ◌≤◌, List, get_or, Some, None, Ok, Err, Option, Result, sym, refl, ap, ◌∙◌, add-zero, add-suc, arith}
use Rattle.pixel.specs.Ops.{Ops}
use Rattle.picture.specs.declared.fault.Fault.{Fault}
use Rattle.picture.specs.Places.{Place, pixel, hole, fault_of, or_else, first_fault}
use Rattle.picture.specs.Images.{Image}
use Rattle.picture.specs.Prepare.{or_fault, first_in, lined, coded, Shown}

or_none : {X : Type 0} (x : Option X) → or_else x None ≡ x
or_none None = refl
or_none (Some x) = refl

or_assoc : {X : Type 0} (x y z : Option X) → or_else (or_else x y) z ≡ or_else x (or_else y z)
or_assoc None y z = refl
or_assoc (Some x) y z = refl

-- among a and then n more
pub first_append : {K : Type 0} (f : ℕ → Place K) (a n : ℕ) → first_fault f (a + n) ≡ or_else (first_fault f a) (first_fault (λ k. f (a + k)) n)
first_append f a zero = rw add-zero (sym (or_none (first_fault f a)))
first_append f a (suc n) =
    rw add-suc (ap (λ x. or_else x (fault_of (f (a + n)))) (first_append f a n) ∙ or_assoc (first_fault f a) (first_fault (λ k. f (a + k)) n) (fault_of (f (a + n))))

pub first_stays : {K : Type 0} (f : ℕ → Place K) (a n : ℕ) (e : Fault) → a ≤ n → first_fault f a ≡ Some e → first_fault f n ≡ Some e
first_stays f a n e l h =
    let q : a + (n - a) ≡ n = omega arith in
    ap (first_fault f) (sym q) ∙ first_append f a (n - a) ∙ ap (λ x. or_else x (first_fault (λ k. f (a + k)) (n - a))) h

-- the same places have the same first fault
pub first_same : {K : Type 0} (f g : ℕ → Place K) (n : ℕ) → ((k : ℕ) → k < n → f k ≡ g k) → first_fault f n ≡ first_fault g n
first_same f g zero h = refl
first_same f g (suc n) h =
    ap (λ x. or_else x (fault_of (f n))) (first_same f g n (λ k l. h k (omega arith))) ∙ ap (λ x. or_else (first_fault g n) (fault_of x)) (h n (omega arith))

-- a row of the same picture
pub first_moved : {K : Type 0} (i j : Image K) (left row n m : ℕ) (x : Result Unit Fault) → x ≡ first_in (lined j left row) n → i ≡ j → n ≡ m → x ≡ first_in (lined i left row) m
first_moved i j left row n m x e v l = e ∙ ap (λ z. first_in (lined z left row) n) (sym v) ∙ ap (first_in (lined i left row)) l

pub fault_of_err : (x : Option Fault) (e : Fault) → Err e ≡ or_fault x → x ≡ Some e
fault_of_err None e h = cc
fault_of_err (Some f) e h = cc

pub none_of_ok : (x : Option Fault) → Ok tt ≡ or_fault x → x ≡ None
none_of_ok None h = refl
none_of_ok (Some f) h = cc

module _ {K S : Type 0} (o : Ops K S) where
  coded_clean : (p : Place K) (c : ℕ) → coded o p ≡ Some c → fault_of p ≡ None
  coded_clean (pixel k) c e = refl
  coded_clean (hole f) c e = cc

  -- where all are pixels there is no fault
  pub shown_clean : (f : ℕ → Place K) (n : ℕ) (codes : List ℕ) → Shown o f n codes → first_fault f n ≡ None
  shown_clean f zero codes s = refl
  shown_clean f (suc n) codes s =
      ap (λ x. or_else x (fault_of (f n))) (shown_clean f n codes (λ k h. s k (omega arith))) ∙ coded_clean (f n) (get_or codes n 0) (s n (omega arith))

-- a row goes on behind its first a places
pub line_on : {K : Type 0} (i : Image K) (left row a k : ℕ) → lined i (left + a) row k ≡ lined i left row (a + k)
line_on i left row a k = let e : left + a + k ≡ left + (a + k) = omega arith in ap (λ x. i.at x row) e

-- the first a places of a row have no hole, and the next n have this one
pub first_on : {K : Type 0} (i : Image K) (left row a n len : ℕ) (e : Fault) → first_fault (lined i left row) a ≡ None → Err e ≡ first_in (lined i (left + a) row) n → a + n ≤ len
    → Err e ≡ first_in (lined i left row) len
first_on i left row a n len e c h l =
    let f : first_fault (lined i (left + a) row) n ≡ Some e = fault_of_err _ _ h in
    let g : first_fault (lined i left row) (a + n) ≡ Some e =
    first_append (lined i left row) a n ∙ ap (λ x. or_else x (first_fault (λ k. lined i left row (a + k)) n)) c
    ∙ first_same (λ k. lined i left row (a + k)) (lined i (left + a) row) n (λ k m. sym (line_on i left row a k)) ∙ f in
    ap or_fault (sym (first_stays (lined i left row) (a + n) len e l g))
