-- Laws of the machine: a tile just used stays.
use Rattle.std.specs.Prelude.{◌≡◌, ℕ, ◌≤◌, Bool, true, List, ◌∷◌}
use Rattle.cache.specs.declared.tile.Tile.{Tile}
use Rattle.cache.specs.Machine.{State, Walk, going, ended, lists, visited}

abbrev pub state_in : Walk → State
state_in (going s) = s
state_in (ended s) = s

-- a tile is the first one behind its visit
abbrev pub UsedFirst : Type 0
UsedFirst = (slots : ℕ) (whole : Tile → Bool) (s s' : State) (t : Tile) → 1 ≤ slots
    → visited slots whole s t ≡ going s' → (older : List Tile) × (s'.tiles ≡ t ∷ older)

-- the first one is still listed behind the visit of another, unless there is one slot
abbrev pub UsedStays : Type 0
UsedStays = (slots : ℕ) (whole : Tile → Bool) (s : State) (used next : Tile) (older : List Tile) → 2 ≤ slots
    → s.tiles ≡ used ∷ older → lists (state_in (visited slots whole s next)).tiles used ≡ true
