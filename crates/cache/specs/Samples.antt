-- Sample results of a cache, and two sample pictures.
use Rattle.std.specs.Prelude.{◌≡◌, ℕ, ◌+◌, ◌*◌, ◌≤◌, cond, ◌&&◌, List, [], ◌∷◌, Ok, Err, Result, ◌==◌, nat_le}
use Rattle.std.proofs.Common.{lit≤}
use Rattle.pixel.specs.declared.pixels.Grey.{Grey}
use Rattle.pixel.specs.Kinds.{grey, shade}
use Rattle.picture.specs.declared.fault.Cause.TheVariants.{Missing}
use Rattle.picture.specs.declared.fault.Refusal.{Refusal}
use Rattle.picture.specs.declared.rect.Rect.{Rect}
use Rattle.picture.specs.Images.{Image}
use Rattle.picture.specs.Places.{Place, pixel, hole}
use Rattle.picture.specs.Prepare.{answer, filled}
use Rattle.picture.specs.Refusals.{done, told, refused}
use Rattle.cache.specs.declared.shape.TileShape.{TileShape}
use Rattle.cache.specs.Machine.{State, fresh}
use Rattle.cache.specs.Caching.{prepared}
use Rattle.cache.specs.Shapes.{ShapeMade}

-- rows 10 20 30 and 40 50 60
abbrev pub sample : ℕ → ℕ → Place Grey
sample x y = pixel (shade (10 * (y * 3 + x + 1)))

abbrev pub grey_sample : Image Grey
grey_sample = record { width = 3; height = 2; maxval = 255; at = sample }

-- without the last two places, (1, 1) and (2, 1)
abbrev pub cut_sample : Image Grey
cut_sample = record {
  width = 3;
  height = 2;
  maxval = 255;
  at = λ x y. cond (nat_le 1 x && y == 1) (hole (record { cause = Missing; source = 0; column = x; row = y })) (sample x y);
}

-- tiles of a single place, two slots
abbrev pub single : TileShape
single = record { width = 1; height = 1; slots = 2; wide = lit≤ tt; high = lit≤ tt; small = lit≤ tt; some = lit≤ tt; few = lit≤ tt }

-- tiles of 2 by 2, one slot
abbrev pub square : TileShape
square = record { width = 2; height = 2; slots = 1; wide = lit≤ tt; high = lit≤ tt; small = lit≤ tt; some = lit≤ tt; few = lit≤ tt }

-- one place of the top row
abbrev pub place : (x : ℕ) → x + 1 ≤ 65535 → Rect
place x h = record { left = x; top = 0; width = 1; height = 1; wide = lit≤ tt; high = lit≤ tt; across = h; down = lit≤ tt }

module _ (i : Image Grey) where
  -- the new cache of a picture behind prepares of single places, the last of the list first
  abbrev pub singly : List Rect → State
  singly [] = fresh 0
  singly (r ∷ rs) = prepared i single r 1 (singly rs)

  -- places 0, 1, 0, 2, 1 of the top row
  abbrev pub five : State
  five = singly (place 1 (lit≤ tt) ∷ (place 2 (lit≤ tt) ∷ (place 0 (lit≤ tt) ∷ (place 1 (lit≤ tt) ∷ (place 0 (lit≤ tt) ∷ [])))))

  -- 1 hit, 4 fetches
  abbrev pub ServesFive : Type 0
  ServesFive = (five.hits ≡ 1) × (five.fetches ≡ 4) × (five.bypasses ≡ 0) × (five.asked ≡ 4)

  -- the new cache behind a prepare of (0, 0), whose tile has a hole
  abbrev pub passed : State
  passed = prepared i square (place 0 (lit≤ tt)) 1 (fresh 0)

  -- the rectangle itself is prepared below, and answered: 10, one bypass, and below was asked twice
  abbrev pub PassesBy : Type 0
  PassesBy = (passed.bypasses ≡ 1) × (passed.asked ≡ 2) × (passed.tiles ≡ []) × (answer i (place 0 (lit≤ tt)) 1 ≡ done) × (filled grey i (place 0 (lit≤ tt)) (0 ∷ []) ≡ 10 ∷ [])

abbrev pub FiveSingly : Type 0
FiveSingly = ServesFive grey_sample

abbrev pub PassedBy : Type 0
PassedBy = PassesBy cut_sample

abbrev pub refused_by5 : Result TileShape Refusal → Type 0
refused_by5 (Ok s) = ⊥
refused_by5 (Err e) = told e ≡ refused 5 []

-- no shape has 17 slots
abbrev pub SeventeenSlots : Type 0
SeventeenSlots = (w h : ℕ) (r : Result TileShape Refusal) → ShapeMade w h 17 r → refused_by5 r
