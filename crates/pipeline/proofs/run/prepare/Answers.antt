use Rattle.writer.specs.Log.{prepared}
use Rattle.writer.specs.Log as log
use Rattle.pipeline.proofs.Firsts.{answers}
use Rattle.pipeline.proofs.run.prepare.Goals as goal

pub returns : goal.returns
returns g c = record {
  prepared = c.prepare.ensures;
  answered = answers g.P.Pixel.Kind.ops g.P.Picture.model g.P.Picture.count g.P.Picture.bare g.met.P.Picture.composed _ _ _ _ _ _ c.prepare.ensures;
  logged = λ new l. log.next l (prepared c.prepare.ensures);
}
