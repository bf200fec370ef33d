-- The bytes of a pixel, by a file's words and by those of the kinds of pixel.
use Rattle.std.proofs.Common.{◌≡◌, ℕ, ◌*◌, ap, arith}
use Rattle.std.proofs.lemmas.Bool.Decides.{nat_tests}
use Rattle.pixel.specs.Ops.{Ops}
use Rattle.pixel.specs.Widths.{sample_width, pixel_width}
use Rattle.source.specs.Raster.{wide, sample_bytes}
use Rattle.source.specs.Files.{pixel_bytes}

pub same_sample : (m : ℕ) → sample_width m ≡ sample_bytes (wide m)
same_sample m = grind (arith, nat_tests)

pub same_width : {K S : Type 0} (o : Ops K S) (m : ℕ) → pixel_width o m ≡ pixel_bytes o m
same_width o m = ap (λ n. o.depth * n) (same_sample m)
