-- What a prepare answers, and what it leaves in the buffer and of the picture.
use Rattle.std.specs.Prelude.{◌≡◌, ℕ, ◌+◌, ◌-◌, ◌*◌, ◌/◌, ◌%◌, ◌^◌, ◌<◌, ◌≤◌, min, Bool, true, false, cond, ◌&&◌, List, [], ◌++◌, map, length, drop, replicate, Some, None, Ok, Err, Option, Result, nat_le, slice_index}
use Rattle.std.specs.List.{range_with_len}
use Rattle.pixel.specs.Ops.{Ops}
use Rattle.picture.specs.declared.fault.Fault.{Fault}
use Rattle.picture.specs.declared.fault.Refusal.{Refusal}
use Rattle.picture.specs.declared.rect.Rect.{Rect}
use Rattle.picture.specs.Refusals.{Outcome, done, refused, fault_values, outcome, told}
use Rattle.picture.specs.Places.{Place, pixel, hole, first_fault}
use Rattle.picture.specs.Images.{Image, Model}

-- a count with one more; it stops at the largest 64-bit number
abbrev pub up : ℕ → ℕ
up n = min (n + 1) (2 ^ 64 - 1)

abbrev pub area : Rect → ℕ
area r = r.width * r.height

-- a rectangle lies in a picture so wide and high
abbrev pub within : ℕ → ℕ → Rect → Bool
within W H r = nat_le (r.left + r.width) W && nat_le (r.top + r.height) H

abbrev pub inside : {K : Type 0} → Image K → Rect → Bool
inside i r = within i.width i.height r

-- what a prepare tests before it looks at a place: how many places there are to fill, or 10 outside a picture so wide and high, then 11 without room for them
abbrev pub Admitted : ℕ → ℕ → Rect → ℕ → Result ℕ Refusal → Type 0
Admitted W H r len (Ok n) = (n ≡ area r) × (within W H r ≡ true) × (area r ≤ len)
Admitted W H r len (Err e) = (within W H r && nat_le (area r) len ≡ false) × (told e ≡ cond (within W H r) (refused 11 []) (refused 10 []))

-- the k-th place of a rectangle in reading order
abbrev pub nth : {K : Type 0} → Image K → Rect → ℕ → Place K
nth i r k = i.at (r.left + k % r.width) (r.top + k / r.width)

-- the k-th place of a row from a column on
abbrev pub lined : {K : Type 0} → Image K → ℕ → ℕ → ℕ → Place K
lined i left row k = i.at (left + k) row

-- no hole, or the first one's fault
abbrev pub or_fault : Option Fault → Result Unit Fault
or_fault None = Ok tt
or_fault (Some f) = Err f

abbrev pub first_in : {K : Type 0} → (ℕ → Place K) → ℕ → Result Unit Fault
first_in f n = or_fault (first_fault f n)

-- 12 and the fault, if there is one
abbrev pub holed : Option Fault → Outcome
holed None = done
holed (Some f) = refused 12 (fault_values f)

-- 10, then 11, then the first hole in reading order
abbrev pub answer : {K : Type 0} → Image K → Rect → ℕ → Outcome
answer i r len = cond (inside i r) (cond (nat_le (area r) len) (holed (first_fault (nth i r) (area r))) (refused 11 [])) (refused 10 [])

-- the first n entries: what f gives without a fault, else 0; further entries stay
abbrev pub put : Option Fault → (ℕ → ℕ) → ℕ → List ℕ → List ℕ
put None f n buffer = map f (range_with_len 0 n) ++ drop n buffer
put (Some e) f n buffer = replicate n 0 ++ drop n buffer

module _ {K S : Type 0} (o : Ops K S) where
  abbrev pub code_at : Place K → ℕ
  code_at (pixel p) = o.code p
  code_at (hole f) = 0

  -- the code of a pixel, and none of a hole
  abbrev pub coded : Place K → Option ℕ
  coded (pixel p) = Some (o.code p)
  coded (hole f) = None

  -- the first n places are pixels, with these codes
  abbrev pub Shown : (ℕ → Place K) → ℕ → List ℕ → Type 0
  Shown f n codes = (k : ℕ) → k < n → coded (f k) ≡ Some (slice_index codes k)

  -- the buffer behind a prepare
  abbrev pub filled : Image K → Rect → List ℕ → List ℕ
  filled i r buffer = cond (inside i r && nat_le (area r) (length buffer)) (put (first_fault (nth i r) (area r)) (λ k. code_at (nth i r k)) (area r) buffer) buffer

module _ {P K S : Type 0} (o : Ops K S) (model : P → Model K) (count : P → ℕ) where
  -- a prepare of p, which is q behind it
  pub record Prepared (p : P) (r : Rect) (before : List ℕ) (a : Result Unit Refusal) (q : P) (after : List ℕ) : Type 0 where
    pub answers : outcome a ≡ answer (model p).shown r (length before)
    pub fills : after ≡ filled o (model p).shown r before
    pub counts : count q ≡ up (count p)
    pub keeps : model q ≡ model p

module _ {P K : Type 0} (model : P → Model K) (count : P → ℕ) (bare : P → Type 0) where
  -- a forget of p, which is q behind it
  pub record Forgot (p q : P) : Type 0 where
    pub drops : bare q
    pub counts : count q ≡ count p
    pub keeps : model q ≡ model p
