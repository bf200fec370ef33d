-- How tiles lie over a picture.
use Rattle.std.specs.Prelude.{◌≡◌, ℕ, ◌+◌, ◌-◌, ◌*◌, ◌/◌, ◌%◌, min, Bool, not, is_some}
use Rattle.picture.specs.declared.rect.Rect.{Rect}
use Rattle.picture.specs.Places.{Place, first_fault}
use Rattle.picture.specs.Images.{Image}
use Rattle.cache.specs.declared.shape.TileShape.{TileShape}
use Rattle.cache.specs.declared.tile.Tile.{Tile}

-- the n-th tile's side, cut at the picture's edge
abbrev pub cut : ℕ → ℕ → ℕ → ℕ
cut side all n = min side (all - n * side)

-- the rectangle is the tile's, in a picture of W columns and H rows
pub record Covers (s : TileShape) (W H : ℕ) (t : Tile) (r : Rect) : Type 0 where
  pub left : r.left ≡ t.column * s.width
  pub top : r.top ≡ t.row * s.height
  pub width : r.width ≡ cut s.width W t.column
  pub height : r.height ≡ cut s.height H t.row

module _ {K : Type 0} (i : Image K) (s : TileShape) where
  abbrev pub tile_width : Tile → ℕ
  tile_width t = cut s.width i.width t.column

  abbrev pub tile_height : Tile → ℕ
  tile_height t = cut s.height i.height t.row

  -- column x and row y of a tile
  abbrev pub tile_place : Tile → ℕ → ℕ → Place K
  tile_place t x y = i.at (t.column * s.width + x) (t.row * s.height + y)

  -- the k-th place of a tile in reading order
  abbrev pub tile_nth : Tile → ℕ → Place K
  tile_nth t k = tile_place t (k % tile_width t) (k / tile_width t)

  -- a tile has no hole
  abbrev pub whole : Tile → Bool
  whole t = not (is_some (first_fault (tile_nth t) (tile_width t * tile_height t)))

-- how many tiles of this side are touched by `size` columns or rows from `from` on
abbrev pub span : ℕ → ℕ → ℕ → ℕ
span from size side = (from + size - 1) / side - from / side + 1

module _ (s : TileShape) (r : Rect) where
  abbrev pub across : ℕ
  across = span r.left r.width s.width

  abbrev pub down : ℕ
  down = span r.top r.height s.height

  -- the k-th of the tiles that a rectangle touches, by rows from the left
  abbrev pub touched : ℕ → Tile
  touched k = record { column = r.left / s.width + k % across; row = r.top / s.height + k / across }
