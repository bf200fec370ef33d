-- What stands at each place of the kinds of store.
use Rattle.std.specs.Prelude.{ℕ, ◌+◌, ◌-◌, ◌/◌, Bool, false, cond, ◌||◌, List, [], ◌∷◌, length, ◌==◌, nat_lt, slice_index}
use Rattle.store.specs.declared.lack.Lack.{Lack}
use Rattle.store.specs.declared.lack.Lack.TheVariants.{Missing, Unread}
use Rattle.store.specs.Cells.{Cell, byte, missing, unread}

-- the bytes of a list, in their order
abbrev pub in_bytes : List ℕ → ℕ → Cell
in_bytes bytes p = cond (nat_lt p (length bytes)) (byte (slice_index bytes p)) missing

-- whether n is one of a list's numbers
abbrev pub listed : List ℕ → ℕ → Bool
listed [] n = false
listed (x ∷ xs) n = x == n || listed xs n

-- the bytes of a list, but those of a listed sector, of 2,048 places each, cannot be read
abbrev pub in_sectors : List ℕ → List ℕ → ℕ → Cell
in_sectors bytes bad p =
    cond (nat_lt p (length bytes)) (cond (listed bad (p / 2048)) unread (byte (slice_index bytes p))) missing

-- the places below from are the first's, and the second's place 0 stands at from
abbrev pub in_joined : (ℕ → Cell) → ℕ → (ℕ → Cell) → ℕ → Cell
in_joined first from second p = cond (nat_lt p from) (first p) (second (p - from))

-- what a store lacks, in a store that has it behind d places
abbrev pub lack_behind : ℕ → Lack → Lack
lack_behind d (Missing p) = Missing (d + p)
lack_behind d (Unread p) = Unread (d + p)
