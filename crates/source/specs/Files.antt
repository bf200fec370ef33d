-- The picture in a file.
use Rattle.std.specs.Prelude.{ℕ, ◌+◌, ◌*◌, cond, List, [], Some, None, Ok, Err, Option, Result}
use Rattle.pixel.specs.Ops.{Ops}
use Rattle.store.specs.Cells.{Cell}
use Rattle.store.specs.Reads.{answer, value}
use Rattle.store.specs.declared.lack.Lack.{Lack}
use Rattle.store.specs.declared.lack.Lack.TheVariants as lack
use Rattle.picture.specs.declared.fault.Cause.{Cause}
use Rattle.picture.specs.declared.fault.Cause.TheVariants.{Missing, Unread, Above}
use Rattle.picture.specs.declared.fault.Fault.{Fault}
use Rattle.picture.specs.Places.{Place, pixel, hole}
use Rattle.picture.specs.Images.{Image, Model}
use Rattle.source.specs.declared.raster.Raster.{Raster}
use Rattle.source.specs.Raster.{wide, sample_bytes, samples_of, under}

abbrev pub lack_cause : Lack → Cause
lack_cause (lack.Missing p) = Missing
lack_cause (lack.Unread p) = Unread

-- why bytes could not be read, if they could not
abbrev pub lacking : Result Unit Lack → Option Cause
lacking (Ok _) = None
lacking (Err x) = Some (lack_cause x)

abbrev pub fault_at : ℕ → ℕ → ℕ → Cause → Fault
fault_at source x y c = record { cause = c; source = source; column = x; row = y }

-- a source has no steps
abbrev pub sourced : {K : Type 0} → Image K → Model K
sourced i = record { shown = i; steps = []; source = i }

module _ {K S : Type 0} (o : Ops K S) where
  -- a hole by the first byte that is missing or unread, else by a sample above maxval, else the pixel
  abbrev pub seen : Option Cause → ℕ → List ℕ → (Cause → Fault) → Place K
  seen (Some c) m xs fault = hole (fault c)
  seen None m xs fault = cond (under m xs) (pixel (o.pixel xs)) (hole (fault Above))

  abbrev pub pixel_bytes : ℕ → ℕ
  pixel_bytes m = o.depth * sample_bytes (wide m)

  -- the pixel whose bytes begin at place p of the store
  abbrev pub pixel_at : (ℕ → Cell) → ℕ → ℕ → (Cause → Fault) → Place K
  pixel_at at m p fault = seen (lacking (answer at p (pixel_bytes m))) m (samples_of (wide m) (λ j. value (at (p + j))) o.depth) fault

  abbrev pub raster_image : (ℕ → Cell) → Raster → Image K
  raster_image at r = record {
    width = r.size.width;
    height = r.size.height;
    maxval = r.size.maxval;
    at = λ x y. pixel_at at r.size.maxval (r.start + (y * r.size.width + x) * pixel_bytes r.size.maxval) (fault_at r.source x y);
  }
