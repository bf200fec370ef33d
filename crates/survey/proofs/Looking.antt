-- A prepare of a part of a row.
use Rattle.std.proofs.Common.{◌≡◌, ℕ, zero, suc, ◌+◌, ◌*◌, ◌/◌, ◌%◌, ◌<◌, ◌≤◌, cond, eqb, List, ◌++◌, map, length, get_or, drop, Some, None, Err, Option, Result, sym, refl, ap, ◌∙◌, ⊎_elim, mod-eq_of_lt, mul-one, arith}
use native.Mathlib.Nat.{div-eq_of_lt}
use Rattle.std.specs.List.{range_with_len}
use Rattle.std.proofs.lemmas.List.{get_or_append_left}
use Rattle.std.proofs.lemmas.Bool.{cases_lt}
use Rattle.std.proofs.lemmas.List.FromFn.{length-map-range_with_len, get_or-map-range_with_len}
use Rattle.pixel.specs.Ops.{Ops}
use Rattle.picture.specs.declared.fault.Cause.{Cause}
use Rattle.picture.specs.declared.fault.Cause.TheVariants.{Missing, Unread, Above, NoPixel}
use Rattle.picture.specs.declared.fault.Fault.{Fault}
use Rattle.picture.specs.declared.fault.Refusal.{Refusal}
use Rattle.picture.specs.declared.fault.Refusal.TheVariants.{Hole}
use Rattle.picture.specs.declared.rect.Rect.{Rect}
use Rattle.picture.specs.Refusals.{cause_number, fault_values, done, outcome, told}
use Rattle.picture.specs.Places.{Place, pixel, hole, fault_of, or_else, first_fault}
use Rattle.picture.specs.Images.{Image}
use Rattle.picture.specs.Prepare.{area, nth, lined, first_in, holed, or_fault, answer, put, code_at, coded, Shown, filled}
use Rattle.picture.proofs.Faults.{first_same}
use Rattle.picture.proofs.Serving.{answer_is, filled_is}

abbrev named : ℕ → Cause
named n = cond (eqb n 1) Missing (cond (eqb n 2) Unread (cond (eqb n 3) Above NoPixel))

named_number : (c : Cause) → named (cause_number c) ≡ c
named_number Missing = refl
named_number Unread = refl
named_number Above = refl
named_number NoPixel = refl

fault_made : (f g : Fault) → f.cause ≡ g.cause → f.source ≡ g.source → f.column ≡ g.column → f.row ≡ g.row → f ≡ g
fault_made f g a b c d =
    let make : Cause → ℕ → ℕ → ℕ → Fault = λ x y z w. record { cause = x; source = y; column = z; row = w } in
    let e : make f.cause f.source f.column f.row ≡ make g.cause g.source g.column g.row = cc in
    e

-- the values of a fault tell it
pub fault_is : (f g : Fault) → fault_values f ≡ fault_values g → f ≡ g
fault_is f g e =
    let n : cause_number f.cause ≡ cause_number g.cause = cc in
    let c : f.cause ≡ g.cause = sym (named_number f.cause) ∙ ap named n ∙ named_number g.cause in
    let s : f.source ≡ g.source = cc in
    let x : f.column ≡ g.column = cc in
    let y : f.row ≡ g.row = cc in
    fault_made f g c s x y

clean_of_done : (x : Option Fault) → done ≡ holed x → x ≡ None
clean_of_done None e = refl
clean_of_done (Some f) e = cc

fault_of-told : (x : Option Fault) (f : Fault) → told (Hole f) ≡ holed x → x ≡ Some f
fault_of-told None f e = cc
fault_of-told (Some g) f e = let v : fault_values g ≡ fault_values f = cc in ap Some (fault_is g f v)

or_none : {X : Type 0} (x y : Option X) → or_else x y ≡ None → (x ≡ None) × (y ≡ None)
or_none None y e = (refl, e)
or_none (Some x) y e = (cc, cc)

-- without a fault every place is a pixel
clean_at : {K : Type 0} (f : ℕ → Place K) (n k : ℕ) → k < n → first_fault f n ≡ None → fault_of (f k) ≡ None
clean_at f zero k h e = absurd (omega arith)
clean_at f (suc n) k h e =
    let b = or_none (first_fault f n) (fault_of (f n)) e in
    ⊎_elim (λ l. clean_at f n k l b.0) (λ l. let q : k ≡ n = omega arith in ap (λ x. fault_of (f x)) q ∙ b.1) (cases_lt k n)

-- a rectangle of one row
pub flat_area : (r : Rect) → r.height ≡ 1 → area r ≡ r.width
flat_area r h = ap (λ x. r.width * x) h ∙ mul-one r.width

flat_nth : {K : Type 0} (i : Image K) (r : Rect) (k : ℕ) → k < r.width → nth i r k ≡ lined i r.left r.top k
flat_nth i r k b =
    let m : r.left + k % r.width ≡ r.left + k = omega (arith, mod-eq_of_lt b) in
    let d : r.top + k / r.width ≡ r.top = omega (arith, div-eq_of_lt b) in
    ap (λ x. i.at x (r.top + k / r.width)) m ∙ ap (λ y. i.at (r.left + k) y) d

flat_first : {K : Type 0} (i : Image K) (r : Rect) → r.height ≡ 1 → first_fault (nth i r) (area r) ≡ first_fault (lined i r.left r.top) r.width
flat_first i r h =
    ap (first_fault (nth i r)) (flat_area r h) ∙ first_same (nth i r) (lined i r.left r.top) r.width (λ k b. flat_nth i r k b)

-- a prepare of one row inside the picture, with a buffer of n codes
pub record Row {K : Type 0} (i : Image K) (r : Rect) (n : ℕ) : Type 0 where
  pub flat : r.height ≡ 1
  pub across : r.left + r.width ≤ i.width
  pub down : r.top < i.height
  pub room : r.width ≤ n

-- what it answers
flat_answer : {K : Type 0} (i : Image K) (r : Rect) (n : ℕ) → Row i r n → answer i r n ≡ holed (first_fault (lined i r.left r.top) r.width)
flat_answer i r n h =
    answer_is i r n (omega arith) (omega arith) (omega (arith, flat_area r h.flat)) ∙ ap holed (flat_first i r h.flat)

pub flat_done : {K : Type 0} (i : Image K) (r : Rect) (n : ℕ) → Row i r n → done ≡ answer i r n → first_fault (lined i r.left r.top) r.width ≡ None
flat_done i r n h e = clean_of_done (first_fault (lined i r.left r.top) r.width) (e ∙ flat_answer i r n h)

pub flat_hole : {K : Type 0} (i : Image K) (r : Rect) (n : ℕ) (a : Result Unit Refusal) (e : Refusal) (f : Fault) → Row i r n → a ≡ Err e → e ≡ Hole f → outcome a ≡ answer i r n
    → Err f ≡ first_in (lined i r.left r.top) r.width
flat_hole i r n a e f h p q o =
    ap or_fault (sym (fault_of-told (first_fault (lined i r.left r.top) r.width) f (ap told (sym q) ∙ ap outcome (sym p) ∙ o ∙ flat_answer i r n h)))

module _ {K S : Type 0} (o : Ops K S) where
  coded_clean : (p : Place K) → fault_of p ≡ None → coded o p ≡ Some (code_at o p)
  coded_clean (pixel p) e = refl
  coded_clean (hole f) e = cc

  -- the buffer then has the codes of the row
  pub flat_shown : (i : Image K) (r : Rect) (before after : List ℕ) → Row i r (length before) → after ≡ filled o i r before
      → first_fault (lined i r.left r.top) r.width ≡ None → Shown o (lined i r.left r.top) r.width after
  flat_shown i r before after h e c k lt =
      let f : ℕ → ℕ = λ k. code_at o (nth i r k) in
      let q = flat_area r h.flat in
      let z : first_fault (nth i r) (area r) ≡ None = flat_first i r h.flat ∙ c in
      let m : after ≡ map f (range_with_len 0 (area r)) ++ drop (area r) before =
      e ∙ filled_is o i r before (omega arith) (omega arith) (omega arith) ∙ ap (λ x. put x f (area r) before) z in
      let g : get_or after k 0 ≡ f k =
      ap (λ xs. get_or xs k 0) m
      ∙ get_or_append_left (map f (range_with_len 0 (area r))) (drop (area r) before) 0 k (omega (arith, length-map-range_with_len f 0 (area r)))
      ∙ get_or-map-range_with_len f 0 (area r) k k 0 (omega arith) (omega arith) in
      let s = flat_nth i r k lt in
      ap (coded o) (sym s) ∙ coded_clean (nth i r k) (ap fault_of s ∙ clean_at (lined i r.left r.top) r.width k lt c) ∙ ap Some (sym g)
