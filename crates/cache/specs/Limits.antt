-- The limits of a cache.
use Rattle.std.specs.Prelude.{ℕ}

-- the most places of a tile, for which each slot has room
abbrev pub most_places : ℕ
most_places = 256

-- the most tiles that are listed
abbrev pub most_tiles : ℕ
most_tiles = 16

-- one slot more, so that there always is a spare one
abbrev pub slot_count : ℕ
slot_count = 17

-- room in all slots
abbrev pub entry_count : ℕ
entry_count = 4352
