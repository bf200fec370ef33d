-- The limits of a header.
use Rattle.std.specs.Prelude.{ℕ, ◌≤◌}
use Rattle.picture.specs.Limits.{largest}
use Rattle.source.specs.declared.reader.Field.{Field}
use Rattle.source.specs.declared.reader.Field.TheVariants.{Width, Height, Maxval}

-- a header lies within the first 4,096 bytes of a file
abbrev pub header_limit : ℕ
header_limit = 4096

-- the largest number that a field may be
abbrev pub limit_of : Field → ℕ
limit_of Width = largest
limit_of Height = largest
limit_of Maxval = 65535

-- a field may be any number from 1 to its limit
abbrev pub Allowed : Field → ℕ → Type 0
Allowed f v = (1 ≤ v) × (v ≤ limit_of f)
