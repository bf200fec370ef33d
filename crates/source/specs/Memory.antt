-- The picture in a slice of pixel codes.
use Rattle.std.specs.Prelude.{◌≡◌, ℕ, ◌+◌, ◌*◌, Bool, true, false, cond, ◌&&◌, List, [], length, Some, None, Ok, Err, Option, Result, nat_le, slice_index}
use Rattle.pixel.specs.Ops.{Ops}
use Rattle.picture.specs.declared.fault.Cause.TheVariants.{NoPixel}
use Rattle.picture.specs.declared.fault.Fault.{Fault}
use Rattle.picture.specs.declared.fault.Refused.{Refused}
use Rattle.picture.specs.declared.size.Size.{Size}
use Rattle.picture.specs.Places.{Place, pixel, hole}
use Rattle.picture.specs.Images.{Image}
use Rattle.picture.specs.Making.{sizeable}
use Rattle.picture.specs.Refusals.{told, refused}
use Rattle.source.specs.declared.memory.MemorySource.{MemorySource}
use Rattle.source.specs.Raster.{under}
use Rattle.source.specs.Files.{fault_at}

module _ {K S : Type 0} (o : Ops K S) where
  -- a pixel with no sample above maxval
  abbrev pub accepted_by : ℕ → Option K → Bool
  accepted_by m None = false
  accepted_by m (Some p) = under m (o.samples p)

  abbrev pub acceptable : ℕ → ℕ → Bool
  acceptable m c = accepted_by m (o.decode c)

  -- a code that is no pixel within maxval is a hole
  abbrev pub remembered : ℕ → Option K → Fault → Place K
  remembered m None f = hole f
  remembered m (Some p) f = cond (under m (o.samples p)) (pixel p) (hole f)

  abbrev pub memory_image : List ℕ → Size → ℕ → Image K
  memory_image codes s source = record {
    width = s.width;
    height = s.height;
    maxval = s.maxval;
    at = λ x y. remembered s.maxval (o.decode (slice_index codes (y * s.width + x))) (fault_at source x y NoPixel);
  }

  -- what a picture in memory shows
  abbrev pub remembered_of : {C : Type 0} → (C → List ℕ) → MemorySource C K → Image K
  remembered_of held s = memory_image (held s.codes) s.size s.source

  -- made of these numbers, or 5 where one is outside its limits or the codes are too few
  abbrev pub MemoryMade : {C : Type 0} → (C → List ℕ) → C → ℕ → ℕ → ℕ → ℕ → Result (MemorySource C K) (Refused C) → Type 0
  MemoryMade held c w h m n (Ok s) =
      (s.codes ≡ c) × (s.size.width ≡ w) × (s.size.height ≡ h) × (s.size.maxval ≡ m) × (s.source ≡ n) × (s.count ≡ 0)
      × ((nat_le n 255 && nat_le (w * h) (length (held c))) ≡ true)
  MemoryMade held c w h m n (Err e) =
      (e.back ≡ c) × (told e.refusal ≡ refused 5 []) × ((sizeable w h m && (nat_le n 255 && nat_le (w * h) (length (held c)))) ≡ false)
