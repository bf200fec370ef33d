use Rattle.pixel.specs.Sampling.{grey_same}
use Rattle.pixel.specs.Sums.{shown}
use Rattle.pixel.proofs.grey.GreyKind.finish.Goals as goal

pub returns : goal.returns
returns c =
    grey_same _ _ (shown c.args.sum c.args.scale c.args.offset c.args.maxval c.scaled.result c.ranges.sum c.ranges.offset c.ranges.maxval.fits c.scaled.ensures)
