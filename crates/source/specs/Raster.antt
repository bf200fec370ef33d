-- A picture file's raster: the bytes of each pixel, rows from the top, each from the left.
use Rattle.std.specs.Prelude.{ℕ, ◌+◌, ◌*◌, Bool, true, cond, ◌&&◌, List, [], ◌∷◌, map, Some, None, Option, nat_le, slice_index}
use Rattle.std.specs.List.{range_with_len}
use Rattle.pixel.specs.Ops.{Ops, joined}

-- a sample has two bytes from maxval 256 on, else one
abbrev pub wide : ℕ → Bool
wide maxval = nat_le 256 maxval

abbrev pub sample_bytes : Bool → ℕ
sample_bytes w = cond w 2 1

-- the sample of index k, the high byte first, where `byte j` is the pixel's j-th byte
abbrev pub sample_of : Bool → (ℕ → ℕ) → ℕ → ℕ
sample_of w byte k = cond w (byte (2 * k) * 256 + byte (2 * k + 1)) (byte k)

abbrev pub samples_of : Bool → (ℕ → ℕ) → ℕ → List ℕ
samples_of w byte depth = map (sample_of w byte) (range_with_len 0 depth)

-- no sample is above m
abbrev pub under : ℕ → List ℕ → Bool
under m [] = true
under m (x ∷ xs) = nat_le x m && under m xs

-- the bytes of a list from a place on
abbrev pub from : List ℕ → ℕ → ℕ → ℕ
from bytes start j = slice_index bytes (start + j)

module _ {K S : Type 0} (o : Ops K S) where
  -- the code of a pixel by its bytes, or none where a sample is above maxval
  abbrev pub code_of : Bool → ℕ → (ℕ → ℕ) → Option ℕ
  code_of w m byte = cond (under m (samples_of w byte o.depth)) (Some (joined (samples_of w byte o.depth))) None
