use Rattle.std.proofs.Common.{nat_abs, ap, ◌∙◌, to_z-of_z, w64, SFits, rules}
use Rattle.pixel.specs.Sums.{scaled_is}
use Rattle.pixel.proofs.scaling.scaled.Goals as goal

pub returns : goal.returns
returns c =
    let f : SFits w64 c.clamp.result = search rules in
    ap nat_abs (to_z-of_z f)
    ∙ scaled_is c.args.sum c.args.scale c.args.offset c.args.maxval c.div_euclid.result c.clamp.result
    c.ranges.sum c.requires.small c.ranges.scale.fits c.ranges.offset c.ranges.maxval.fits c.div_euclid.ensures c.clamp.ensures.value
