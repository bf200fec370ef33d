use Rattle.std.proofs.Common.{w64, SFits, rules}
use Rattle.pixel.specs.Sampling.{colour_same}
use Rattle.pixel.specs.Sums.{shown}
use Rattle.pixel.proofs.colour.ColourKind.finish.Goals as goal

pub returns : goal.returns
returns c =
    let r : SFits w64 c.args.sum.red = search rules in
    let g : SFits w64 c.args.sum.green = search rules in
    let b : SFits w64 c.args.sum.blue = search rules in
    colour_same _ _
    (shown c.args.sum.red c.args.scale c.args.offset c.args.maxval c.scaled.result r c.ranges.offset c.ranges.maxval.fits c.scaled.ensures)
    (shown c.args.sum.green c.args.scale c.args.offset c.args.maxval c.scaled-2.result g c.ranges.offset c.ranges.maxval.fits c.scaled-2.ensures)
    (shown c.args.sum.blue c.args.scale c.args.offset c.args.maxval c.scaled-3.result b c.ranges.offset c.ranges.maxval.fits c.scaled-3.ensures)
