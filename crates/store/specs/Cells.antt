-- What stands at the places of a store.
use Rattle.std.specs.Prelude.{ℕ, ◌^◌, cond, nat_lt}

pub data Cell : Type 0 where
  byte : ℕ → Cell
  -- the store ends before this place
  missing : Cell
  -- the store has this place, but it cannot be read
  unread : Cell

-- no store has a place from 2 ^ 48 on
abbrev pub capped : (ℕ → Cell) → ℕ → Cell
capped at p = cond (nat_lt p (2 ^ 48)) (at p) missing
