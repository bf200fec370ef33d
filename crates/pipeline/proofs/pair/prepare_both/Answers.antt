use Rattle.pipeline.proofs.Pairs.{agree}
use Rattle.pipeline.proofs.pair.prepare_both.Goals as goal

pub returns : goal.returns
returns g c = record {
  first = c.prepare-one.ensures.prepared;
  second = c.prepare-two.ensures.prepared;
  answered_first = c.prepare-one.ensures.answered;
  answered_second = c.prepare-two.ensures.answered;
  alike =
      agree g.P.Pixel.Kind.ops
      g.P.Picture.model g.P.Picture.count g.P.Picture.bare
      g.Q.Picture.model g.Q.Picture.count g.Q.Picture.bare
      g.met.P.Picture.composed g.met.Q.Picture.composed
      _ _ _ _ _ _ _ _ _ _ _ c.prepare-one.ensures.prepared c.prepare-two.ensures.prepared;
}
