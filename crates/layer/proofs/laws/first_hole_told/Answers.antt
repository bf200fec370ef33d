use Rattle.layer.proofs.Telling.{first_hole_told}
use Rattle.layer.proofs.laws.first_hole_told.Goals as goal

pub returns : goal.returns
returns g c = first_hole_told g.K.Kind.ops
