-- A walk over the tiles that a rectangle touches, and what has been served of it.
use Rattle.std.specs.Prelude.{◌≡◌, ℕ, ◌+◌, ◌-◌, ◌*◌, ◌/◌, ◌<◌, List, Some, slice_index}
use Rattle.pixel.specs.Ops.{Ops}
use Rattle.picture.specs.declared.rect.Rect.{Rect}
use Rattle.picture.specs.Images.{Image}
use Rattle.picture.specs.Prepare.{coded}
use Rattle.picture.specs.Region.{Within}
use Rattle.cache.specs.declared.shape.TileShape.{TileShape}
use Rattle.cache.specs.Machine.{State, Walk, walked}
use Rattle.cache.specs.Grid.{whole, across, down, touched}
use Rattle.cache.specs.Boxes.{spot}

-- the machine's walk over the tiles that a rectangle touches
abbrev pub over_tiles : {K : Type 0} → Image K → TileShape → Rect → State → Walk
over_tiles b s r = walked s.slots (whole b s) (touched s r) (across s r * down s r)

module _ {K S : Type 0} (o : Ops K S) where
  -- the buffer holds the pixels of those places of a rectangle whose tile is one of the first n that it touches
  abbrev pub Served : Image K → TileShape → Rect → List ℕ → ℕ → Type 0
  Served b s r to n = (x y : ℕ) → Within r x y → (y / s.height - r.top / s.height) * across s r + (x / s.width - r.left / s.width) < n
      → coded o (b.at x y) ≡ Some (slice_index to (spot r x y))
