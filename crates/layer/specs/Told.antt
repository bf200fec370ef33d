-- What a part that was not drawn at once tells of the fault that a place has.
use Rattle.std.specs.Prelude.{◌≡◌, Ok, Err, Result}
use Rattle.picture.specs.declared.fault.Fault.{Fault}
use Rattle.layer.specs.declared.undrawn.Undrawn.{Undrawn}
use Rattle.layer.specs.declared.undrawn.Undrawn.TheVariants.{Uncut, Hole}

-- it was drawn, or the fault is told
abbrev pub Told : {A : Type 0} → Result Unit Undrawn → Result A Fault → Type 0
Told (Ok u) x = Unit {0}
Told (Err Uncut) x = ⊥
Told (Err (Hole f)) x = Err f ≡ x
