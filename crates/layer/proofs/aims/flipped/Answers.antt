use Rattle.std.proofs.Common.{refl}
use Rattle.layer.proofs.Aiming.{as_flips, copies_upturned}
use Rattle.layer.proofs.aims.flipped.Goals as goal

pub returns-in-Vertical : goal.returns-in-Vertical
returns-in-Vertical c =
    as_flips _ _ _ _ _ _ c.in-Vertical.is
    (copies_upturned _ c.args.size.width c.args.size.height c.args.part c.requires.across c.requires.down refl refl refl refl refl refl refl refl refl)
