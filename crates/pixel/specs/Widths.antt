-- How many bytes of a file a sample and a pixel have.
use Rattle.std.specs.Prelude.{ℕ, ◌*◌, cond, nat_lt}
use Rattle.pixel.specs.Ops.{Ops}

-- one byte where maxval is below 256, else two
abbrev pub sample_width : ℕ → ℕ
sample_width maxval = cond (nat_lt maxval 256) 1 2

module _ {K S : Type 0} (o : Ops K S) where
  abbrev pub pixel_width : ℕ → ℕ
  pixel_width maxval = o.depth * sample_width maxval
