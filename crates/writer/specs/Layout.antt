-- Bytes written into a buffer, and the bytes of codes.
use Rattle.std.specs.Prelude.{ℕ, ◌+◌, ◌-◌, ◌*◌, List, ◌++◌, length, take, drop, replicate, Some, None, Option}
use Rattle.std.specs.List.{range_with_len, flat_map}
use Rattle.pixel.specs.Ops.{Ops, Under}
use Rattle.writer.specs.File.{pixel_width, pixel_bytes}

-- a buffer after a write of bytes from the place p on
unfoldable pub pasted : List ℕ → ℕ → List ℕ → List ℕ
pasted buffer p bytes = take p buffer ++ (bytes ++ drop (p + length bytes) buffer)

-- the same n times
abbrev pub repeated : List ℕ → ℕ → List ℕ
repeated bytes n = flat_map (λ k. bytes) (range_with_len 0 n)

module _ {K S : Type 0} (o : Ops K S) where
  abbrev pub decoded_bytes : ℕ → Option K → List ℕ
  decoded_bytes maxval (Some p) = pixel_bytes o maxval p
  decoded_bytes maxval None = replicate (pixel_width o maxval) 0

  abbrev pub code_bytes : ℕ → ℕ → List ℕ
  code_bytes maxval c = decoded_bytes maxval (o.decode c)

  -- a pixel with no sample above maxval
  abbrev pub Known : ℕ → Option K → Type 0
  Known maxval (Some p) = Under maxval (o.samples p)
  Known maxval None = ⊥

  -- a row of codes that is padded to so many pixels
  abbrev pub row_bytes : ℕ → K → ℕ → List ℕ → List ℕ
  row_bytes maxval pad side codes = flat_map (code_bytes maxval) codes ++ repeated (pixel_bytes o maxval pad) (side - length codes)

  -- n rows of this width, each padded
  abbrev pub rows_bytes : ℕ → K → ℕ → ℕ → List ℕ → ℕ → List ℕ
  rows_bytes maxval pad side wide codes n = flat_map (λ j. row_bytes maxval pad side (take wide (drop (j * wide) codes))) (range_with_len 0 n)

  -- rows of this width, padded to a square
  abbrev pub square_bytes : ℕ → K → ℕ → ℕ → ℕ → List ℕ → List ℕ
  square_bytes maxval pad side wide high codes = rows_bytes maxval pad side wide codes high ++ repeated (pixel_bytes o maxval pad) ((side - high) * side)
