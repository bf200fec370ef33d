-- What the slots hold, and what the machine has of them.
use Rattle.std.specs.Prelude.{◌≡◌, ℕ, ◌+◌, ◌*◌, ◌<◌, ◌≤◌, min, List, length, Some, slice_index, slice_index_or, slice_set}
use Rattle.pixel.specs.Ops.{Ops}
use Rattle.picture.specs.Images.{Image}
use Rattle.picture.specs.Prepare.{up, coded}
use Rattle.cache.specs.declared.held.Held.{Held}
use Rattle.cache.specs.declared.shape.TileShape.{TileShape}
use Rattle.cache.specs.declared.tile.Tile.{Tile}
use Rattle.cache.specs.declared.tiles.Tiles.{Tiles}
use Rattle.cache.specs.Limits.{most_places, slot_count, entry_count}
use Rattle.cache.specs.Machine.{State}
use Rattle.cache.specs.Order.{none, tile_at, slot_at, promoted, listed}
use Rattle.cache.specs.Grid.{tile_width, tile_height, tile_place}

-- where a slot's entries begin
abbrev pub base : ℕ → ℕ
base slot = slot * most_places

-- the machine's state, over a picture with this count
abbrev pub state : Tiles → ℕ → State
state t asked = record { tiles = listed t.held t.len; hits = t.counts.hits; fetches = t.counts.fetches; bypasses = t.counts.bypasses; asked = asked }

-- what stands at i goes to the front, and a hit is counted
abbrev pub again : Tiles → ℕ → Tiles
again t i = record {
  held = promoted t.held i;
  len = t.len;
  entries = t.entries;
  counts = record { hits = up t.counts.hits; fetches = t.counts.fetches; bypasses = t.counts.bypasses };
}

-- a tile in the spare slot, which stands behind the listed ones
abbrev pub entered : Tiles → Tile → Held
entered t x = record { tile = x; slot = slot_at t.held t.len }

-- the tile in the spare slot goes to the front, the last one leaves if there are more than the slots, and a fetch is counted
abbrev pub admitted : ℕ → Tile → Tiles → Tiles
admitted slots x t = record {
  held = promoted (slice_set t.held t.len (entered t x)) t.len;
  len = min (t.len + 1) slots;
  entries = t.entries;
  counts = record { hits = t.counts.hits; fetches = up t.counts.fetches; bypasses = t.counts.bypasses };
}

-- the slots with other entries
abbrev pub holding : Tiles → List ℕ → Tiles
holding t es = record { held = t.held; len = t.len; entries = es; counts = t.counts }

-- a tile is the first of the list
pub record Front (t : Tiles) (x : Tile) : Type 0 where
  pub some : 0 < t.len
  pub at : tile_at t.held 0 ≡ x

-- no tile, no count, and each slot in its own place
pub record Unused (t : Tiles) : Type 0 where
  pub len : t.len ≡ 0
  pub hits : t.counts.hits ≡ 0
  pub fetches : t.counts.fetches ≡ 0
  pub bypasses : t.counts.bypasses ≡ 0
  pub long : length t.held ≡ slot_count
  pub room : length t.entries ≡ entry_count
  pub own : (i : ℕ) → i < slot_count → slot_at t.held i ≡ i

module _ {K S : Type 0} (o : Ops K S) where
  -- a slot holds the pixels of its tile
  abbrev pub Good : Image K → TileShape → List ℕ → Held → Type 0
  Good b s entries h = (x y : ℕ) → x < tile_width b s h.tile → y < tile_height b s h.tile
      → coded o (tile_place b s h.tile x y) ≡ Some (slice_index entries (base h.slot + (y * tile_width b s h.tile + x)))

  -- the slots lie apart, and each listed one holds the pixels of its tile
  pub record Ready (b : Image K) (s : TileShape) (t : Tiles) : Type 0 where
    pub few : t.len ≤ s.slots
    pub long : length t.held ≡ slot_count
    pub room : length t.entries ≡ entry_count
    pub own : (i : ℕ) → i < slot_count → slot_at t.held i < slot_count
    pub apart : (i j : ℕ) → i < slot_count → j < slot_count → slot_at t.held i ≡ slot_at t.held j → i ≡ j
    pub good : (i : ℕ) → i < t.len → Good b s t.entries (slice_index_or t.held i none)
