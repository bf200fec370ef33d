use Rattle.writer.proofs.Firsts.{answers}
use Rattle.writer.proofs.laws.answers_hold.Goals as goal

pub returns : goal.returns
returns g c = answers g.P.Pixel.Kind.ops g.P.Picture.model g.P.Picture.count g.P.Picture.bare g.met.P.Picture.composed
