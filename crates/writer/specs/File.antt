-- The file of a picture: a header, then the samples of its pixels in reading order.
use Rattle.std.specs.Prelude.{ℕ, ◌*◌, ◌/◌, ◌%◌, cond, List, [], ◌∷◌, ◌++◌, decimal, nat_lt}
use Rattle.std.specs.List.{range_with_len, flat_map}
use Rattle.pixel.specs.Ops.{Ops}
pub use Rattle.pixel.specs.Widths.{sample_width, pixel_width}
use Rattle.picture.specs.Places.{Place, pixel, hole}
use Rattle.picture.specs.Images.{Image}

-- a sample is one byte if maxval is below 256, else two, the high byte first
abbrev pub sample_bytes : ℕ → ℕ → List ℕ
sample_bytes maxval s = cond (nat_lt maxval 256) (s ∷ []) (s / 256 ∷ (s % 256 ∷ []))

-- a number in decimal and the byte behind it
unfoldable pub field : ℕ → ℕ → List ℕ
field n behind = decimal n ++ (behind ∷ [])

-- `P` and the mark, LF, width, space, height, LF, maxval, LF
unfoldable pub header : ℕ → ℕ → ℕ → ℕ → List ℕ
header mark width height maxval = (80 ∷ (mark ∷ (10 ∷ []))) ++ (field width 32 ++ (field height 10 ++ field maxval 10))

-- the k-th place of a picture in reading order
abbrev pub place_of : {K : Type 0} → Image K → ℕ → Place K
place_of i k = i.at (k % i.width) (k / i.width)

module _ {K S : Type 0} (o : Ops K S) where
  abbrev pub pixel_bytes : ℕ → K → List ℕ
  pixel_bytes maxval p = flat_map (sample_bytes maxval) (o.samples p)

  -- a hole has none
  abbrev pub place_bytes : ℕ → Place K → List ℕ
  place_bytes maxval (pixel p) = pixel_bytes maxval p
  place_bytes maxval (hole f) = []

  -- the bytes of n places in reading order, from the place a on
  unfoldable pub reading : Image K → ℕ → ℕ → List ℕ
  reading i a n = flat_map (λ k. place_bytes i.maxval (place_of i k)) (range_with_len a n)

  abbrev pub header_of : Image K → List ℕ
  header_of i = header o.mark i.width i.height i.maxval

  abbrev pub raster : Image K → List ℕ
  raster i = reading i 0 (i.width * i.height)

  abbrev pub file : Image K → List ℕ
  file i = header_of i ++ raster i
