-- The whole file of a picture, written by strips of one height.
use Rattle.std.specs.Prelude.{◌≡◌, ℕ, ◌+◌, ◌*◌, min, cond, ◌&&◌, List, length, Some, None, Option, Result, ◌==◌, nat_le}
use Rattle.pixel.specs.Ops.{Ops}
use Rattle.picture.specs.declared.fault.Refusal.{Refusal}
use Rattle.picture.specs.Places.{first_fault}
use Rattle.picture.specs.Images.{Image, Model}
use Rattle.writer.specs.File.{place_of, pixel_width, header_of, file}
use Rattle.writer.specs.Calls.{End, early, holed, wrote, ending, outcome_of, amount, end_outcome, end_amount, over}

module _ {K S : Type 0} (o : Ops K S) where
  -- how many bytes the file has if no pixel is missing
  abbrev pub file_width : Image K → ℕ
  file_width i = length (header_of o i) + i.width * i.height * pixel_width o i.maxval

  -- 15, then 11; by the lengths of the two buffers
  abbrev pub file_check : Image K → ℕ → ℕ → ℕ → Option ℕ
  file_check i s work out =
      cond (s == 0) (Some 15) (cond (nat_le (i.width * min s i.height) work && nat_le (file_width i) out) None (Some 11))

  -- 12 is told with the fault of the first hole of the picture
  unfoldable pub file_end : Image K → ℕ → ℕ → ℕ → End
  file_end i s work out = ending (file_check i s work out) (first_fault (place_of i) (i.width * i.height))

module _ {P K S : Type 0} (o : Ops K S) (model : P → Model K) (count : P → ℕ) where
  -- what is left of the picture and the buffers; where there is a hole, the bytes before its strip are written
  abbrev pub Left : End → P → List ℕ → List ℕ → P → List ℕ → List ℕ → Type 0
  Left (early n) p work out q work' out' = (q ≡ p) × (work' ≡ work) × (out' ≡ out)
  Left (holed f) p work out q work' out' = Unit {0}
  Left wrote p work out q work' out' = out' ≡ over (file o (model p).shown) out

  -- the file of p by strips of height s
  pub record Filed (p : P) (s : ℕ) (work out : List ℕ) (a : Result ℕ Refusal) (q : P) (work' out' : List ℕ) : Type 0 where
    pub answers : outcome_of a ≡ end_outcome (file_end o (model p).shown s (length work) (length out))
    pub amounts : amount a ≡ end_amount (file_end o (model p).shown s (length work) (length out)) (length (file o (model p).shown))
    pub leaves : Left (file_end o (model p).shown s (length work) (length out)) p work out q work' out'
    pub keeps : model q ≡ model p
