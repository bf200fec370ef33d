-- Picture A is grey, 3 by 2, maxval 255, rows 10 20 30 and 40 50 60; its file has 17 bytes. Picture B is that file cut to 15 bytes. Both are source 0.
use Rattle.std.specs.Prelude.{◌≡◌, ℕ, ◌*◌, ◌/◌, ◌%◌, true, false, List, [], ◌∷◌, map, length, take, pos, negsuc, Some, None, Ok, Option}
use Rattle.std.proofs.Common.{lit≤}
use Rattle.std.specs.List.{range_with_len}
use Rattle.pixel.specs.declared.pixels.Grey.{Grey}
use Rattle.pixel.specs.Kinds.{grey}
use Rattle.store.specs.Cells.{capped}
use Rattle.store.specs.Stores.{in_bytes}
use Rattle.picture.specs.declared.fault.Fault.{Fault}
use Rattle.picture.specs.declared.fault.Cause.TheVariants.{Missing}
use Rattle.picture.specs.declared.size.Size.{Size}
use Rattle.picture.specs.declared.step.Ground.TheVariants.{Copy}
use Rattle.picture.specs.declared.step.Axis.TheVariants.{Horizontal}
use Rattle.picture.specs.declared.step.Turn.TheVariants.{D90}
use Rattle.picture.specs.declared.step.Mask.TheVariants.{Blur, Sharpen, Relief}
use Rattle.picture.specs.declared.step.Step.{Step}
use Rattle.picture.specs.declared.step.Step.TheVariants.{Crop, Embed, Flip, Rot, Shrink, Conv}
use Rattle.picture.specs.Places.{first_fault}
use Rattle.picture.specs.Images.{Image}
use Rattle.picture.specs.Steps.{fitting}
use Rattle.picture.specs.Compose.{stepped}
use Rattle.picture.specs.Prepare.{coded}
use Rattle.source.specs.declared.raster.Raster.{Raster}
use Rattle.source.specs.Files.{fault_at, raster_image}
use Rattle.source.specs.Header.{header_of}
use Rattle.source.specs.Opening.{headed}
use Rattle.cache.specs.Samples.{ServesFive, PassesBy, SeventeenSlots}

-- "P5" LF "3 2" LF "255" LF, then the samples
abbrev pub file_a : List ℕ
file_a = 80 ∷ (53 ∷ (10 ∷ (51 ∷ (32 ∷ (50 ∷ (10 ∷ (50 ∷ (53 ∷ (53 ∷ (10 ∷ (10 ∷ (20 ∷ (30 ∷ (40 ∷ (50 ∷ (60 ∷ []))))))))))))))))

abbrev pub file_b : List ℕ
file_b = take 15 file_a

abbrev size : Size
size = record { width = 3; height = 2; maxval = 255; wide = lit≤ tt; high = lit≤ tt; bright = lit≤ tt; across = lit≤ tt; down = lit≤ tt; fits = lit≤ tt }

abbrev pub raster : Raster
raster = record { start = 11; size = size; source = 0; early = lit≤ tt }

abbrev pub A : Image Grey
A = raster_image grey (capped (in_bytes file_a)) raster

abbrev pub B : Image Grey
B = raster_image grey (capped (in_bytes file_b)) raster

-- the codes of a picture in reading order; none for a hole
abbrev pub shown_by : Image Grey → List (Option ℕ)
shown_by i = map (λ k. coded grey (i.at (k % i.width) (k / i.width))) (range_with_len 0 (i.width * i.height))

abbrev pub after : Step → List (Option ℕ)
after s = shown_by (stepped grey s A)

-- the code at one place of A behind a step
abbrev pub at : Step → ℕ → ℕ → Option ℕ
at s u v = coded grey ((stepped grey s A).at u v)

-- the first fault of a picture in reading order
abbrev pub first_fault_of : Image Grey → Option Fault
first_fault_of i = first_fault (λ k. i.at (k % i.width) (k / i.width)) (i.width * i.height)

pub record Samples : Type 0 where
  pub long : length file_a ≡ 17
  pub header : header_of 53 file_a ≡ Ok (headed raster)
  pub whole : shown_by A ≡ Some 10 ∷ (Some 20 ∷ (Some 30 ∷ (Some 40 ∷ (Some 50 ∷ (Some 60 ∷ [])))))
  -- 1: rot d90
  pub turned : after (Rot D90) ≡ Some 40 ∷ (Some 10 ∷ (Some 50 ∷ (Some 20 ∷ (Some 60 ∷ (Some 30 ∷ [])))))
  -- 2: embed 1 1 2 2
  pub embedded : after (Embed (pos 1) (pos 1) 2 2 None) ≡ Some 0 ∷ (Some 0 ∷ (Some 0 ∷ (Some 10 ∷ [])))
  -- 3: embed -1 0 3 1 copy
  pub copied : after (Embed (negsuc 0) (pos 0) 3 1 (Some Copy)) ≡ Some 20 ∷ (Some 30 ∷ (Some 30 ∷ []))
  -- 4: shrink 2 2
  pub shrunk : after (Shrink 2 2) ≡ Some 30 ∷ []
  -- 5: blur
  pub blurred : at (Conv Blur) 0 0 ≡ Some 23
  -- 6: sharpen
  pub sharpened : at (Conv Sharpen) 0 0 ≡ Some 0
  pub sharpened_next : at (Conv Sharpen) 1 0 ≡ Some 9
  -- 7: relief; a mask turned over would give 108
  pub relieved : at (Conv Relief) 0 0 ≡ Some 148
  -- 8: B has a hole at (1, 1)
  pub cut : first_fault_of B ≡ Some (fault_at 0 1 1 Missing)
  -- 9: B, flip horizontal: the hole at (2, 1) comes first
  pub flipped : first_fault_of (stepped grey (Flip Horizontal) B) ≡ Some (fault_at 0 2 1 Missing)
  -- 10: B under a cache of 2 by 2 tiles and one slot, place (0, 0) prepared: 10, one bypass, and below was asked twice
  pub passed : PassesBy B
  -- 11: A under a cache of 1 by 1 tiles and two slots, places 0, 1, 0, 2, 1 of the top row prepared singly: 1 hit, 4 fetches
  pub singles : ServesFive A
  -- no cache has 17 slots
  pub seventeen : SeventeenSlots
  -- a crop of the whole fits, and one that leaves it does not
  pub fits : fitting (Crop 0 0 3 2) 3 2 ≡ true
  pub leaves : fitting (Crop 1 0 3 2) 3 2 ≡ false
