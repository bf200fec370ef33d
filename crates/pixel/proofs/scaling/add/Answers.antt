use Rattle.pixel.specs.Sums.{added}
use Rattle.pixel.proofs.scaling.add.Goals as goal

pub returns : goal.returns
returns c = added c.args.sum c.args.weight c.args.sample c.ranges.sum c.ranges.weight c.requires.small c.requires.light c.ranges.sample.fits
