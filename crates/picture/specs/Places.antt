-- A place of a picture has a pixel, or it is a hole and tells a fault.
use Rattle.std.specs.Prelude.{ℕ, zero, suc, Some, None, Option}
use Rattle.picture.specs.declared.fault.Fault.{Fault}

pub data Place (K : Type 0) : Type 0 where
  pixel : K → Place K
  hole : Fault → Place K

abbrev pub fault_of : {K : Type 0} → Place K → Option Fault
fault_of (pixel k) = None
fault_of (hole f) = Some f

abbrev pub or_else : {X : Type 0} → Option X → Option X → Option X
or_else None y = y
or_else (Some x) y = Some x

-- the fault of the first hole among the first n places
abbrev pub first_fault : {K : Type 0} → (ℕ → Place K) → ℕ → Option Fault
first_fault f zero = None
first_fault f (suc n) = or_else (first_fault f n) (fault_of (f n))
