use Rattle.std.proofs.Common.{get_or, ◌≡◌, true}
use Rattle.pixel.specs.Ops.{joined}
use Rattle.source.specs.Raster.{samples_of, under}
use Rattle.source.proofs.samples.pixel_code.Given as goal

abbrev pub invariant-loop-k : goal.invariant-loop-k
invariant-loop-k g l =
    (under l.maxval (samples_of l.wide (λ j. get_or l.pixel j 0) l.k) ≡ true)
    × (l.code ≡ joined (samples_of l.wide (λ j. get_or l.pixel j 0) l.k))
