use Rattle.std.proofs.Common.{refl}
use Rattle.layer.proofs.Aiming.{as_turns, copies_quarter}
use Rattle.layer.proofs.aims.turned.Goals as goal

pub returns-in-D90 : goal.returns-in-D90
returns-in-D90 c =
    as_turns _ _ _ _ _ _ c.in-D90.is
    (copies_quarter _ c.args.size.width c.args.size.height c.args.part c.requires.across c.requires.down refl refl refl refl refl refl refl refl refl)
