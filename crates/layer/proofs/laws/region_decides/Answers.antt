use Rattle.layer.proofs.Deciding.{region_decides}
use Rattle.layer.proofs.laws.region_decides.Goals as goal

pub returns : goal.returns
returns g c = region_decides g.K.Kind.ops
