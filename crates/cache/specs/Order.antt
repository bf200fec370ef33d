-- The listed tiles and their slots, most recent first.
use Rattle.std.specs.Prelude.{ℕ, suc, List, ◌∷◌, ◌++◌, map, get_or, take, drop, slice_index_or}
use Rattle.cache.specs.declared.held.Held.{Held}
use Rattle.cache.specs.declared.tile.Tile.{Tile}

-- what stands past the end
abbrev pub none : Held
none = record { tile = record { column = 0; row = 0 }; slot = 0 }

abbrev pub tile_at : List Held → ℕ → Tile
tile_at hs i = (get_or hs i none).tile

abbrev pub slot_at : List Held → ℕ → ℕ
slot_at hs i = (get_or hs i none).slot

-- what stands at i goes to the front
abbrev pub promoted : List Held → ℕ → List Held
promoted hs i = slice_index_or hs i none ∷ (take i hs ++ drop (suc i) hs)

-- the tiles of the first n
abbrev pub listed : List Held → ℕ → List Tile
listed hs n = map (λ h. h.tile) (take n hs)
