-- From a picture to its file and back, and from a file to its picture and back.
use Rattle.std.specs.Prelude.{◌≡◌, ℕ, ◌+◌, ◌*◌, ◌<◌, ◌≤◌, List, ◌++◌, length, Ok, Err, Result, slice_index}
use Rattle.pixel.specs.Ops.{Ops}
use Rattle.picture.specs.declared.fault.Refused.{Refused}
use Rattle.picture.specs.Places.{pixel}
use Rattle.picture.specs.Images.{Image, Sized, Bounded}
use Rattle.store.specs.Cells.{Cell, byte, capped}
use Rattle.source.specs.declared.file.FileSource.{FileSource}
use Rattle.source.specs.Files.{raster_image}
use Rattle.source.specs.Header as reader
use Rattle.writer.specs.File.{pixel_width, header_of, raster, file}

-- each place inside is a pixel
abbrev pub NoHoles : {K : Type 0} → Image K → Type 0
NoHoles {K} i = (x y : ℕ) → x < i.width → y < i.height → (p : K) × (i.at x y ≡ pixel p)

-- these bytes stand from place p on; what stands behind them is free
abbrev pub Holds : (ℕ → Cell) → ℕ → List ℕ → Type 0
Holds at p bytes = (k : ℕ) → k < length bytes → at (p + k) ≡ byte (slice_index bytes k)

-- what stands as a byte is one
abbrev pub Eights : (ℕ → Cell) → Type 0
Eights at = (p b : ℕ) → at p ≡ byte b → b < 256

-- the same size and maxval, and the same at each place inside
pub record SamePicture {K : Type 0} (i j : Image K) : Type 0 where
  pub width : j.width ≡ i.width
  pub height : j.height ≡ i.height
  pub maxval : j.maxval ≡ i.maxval
  pub at : (x y : ℕ) → x < i.width → y < i.height → j.at x y ≡ i.at x y

module _ {K T : Type 0} (o : Ops K T) where
  -- the file of i, where i was read from bytes whose raster begins at start
  pub record Rewritten (at : ℕ → Cell) (start : ℕ) (i : Image K) : Type 0 where
    -- its header reads back as width, height and maxval, whatever stands behind it
    pub header : (rest : List ℕ) → reader.header_of o.mark (header_of o i ++ rest)
        ≡ Ok (record { width = i.width; height = i.height; maxval = i.maxval; length = length (header_of o i) })
    pub long : length (raster o i) ≡ i.width * i.height * pixel_width o i.maxval
    -- byte for byte what was read
    pub bytes : Holds at start (raster o i)

  module _ {S : Type 0} (at : S → ℕ → Cell) where
    -- the picture that an opened file shows
    abbrev pub picture_of : FileSource S K → Image K
    picture_of f = raster_image o (capped (at f.store)) f.raster

    abbrev pub Shows : Image K → Result (FileSource S K) (Refused S) → Type 0
    Shows i (Ok f) = SamePicture i (picture_of f)
    Shows i (Err e) = ⊥

    -- a store that begins with the file of a picture without holes is opened and shows that picture
    abbrev pub ReadsBack : S → ℕ → Result (FileSource S K) (Refused S) → Type 0
    ReadsBack store number r = (i : Image K) → Sized i → Bounded o i → NoHoles i → Holds (capped (at store)) 0 (file o i) → number ≤ 255 → Shows i r

    -- an opened picture without holes is written as it stands in the store.
    -- Two bytes come back from their sample only if each is below 256. All stores' bytes are, as a read fills a buffer of these, but `at` does not say it: a premise.
    abbrev pub WrittenAgain : S → Result (FileSource S K) (Refused S) → Type 0
    WrittenAgain store (Ok f) =
        NoHoles (picture_of f) → (256 ≤ (picture_of f).maxval → Eights (capped (at store))) → Rewritten (capped (at store)) f.raster.start (picture_of f)
    WrittenAgain store (Err e) = Unit {0}
