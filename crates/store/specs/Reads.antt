-- What a read of a store answers, and what it leaves in the buffer.
use Rattle.std.specs.Prelude.{ℕ, zero, suc, ◌+◌, List, map, length, Ok, Err, Result}
use Rattle.std.specs.List.{range_with_len}
use Rattle.store.specs.declared.lack.Lack.{Lack}
use Rattle.store.specs.declared.lack.Lack.TheVariants.{Missing, Unread}
use Rattle.store.specs.Cells.{Cell, byte, missing, unread}

-- what place p answers, before what those behind it answer
abbrev pub before : Cell → ℕ → Result Unit Lack → Result Unit Lack
before (byte _) p rest = rest
before missing p rest = Err (Missing p)
before unread p rest = Err (Unread p)

-- n places from p on: all are bytes, or the first that is none
unfoldable pub answer : (ℕ → Cell) → ℕ → ℕ → Result Unit Lack
answer at p zero = Ok tt
answer at p (suc n) = before (at p) p (answer at (p + 1) n)

-- the byte of a place; 0 where there is none
abbrev pub value : Cell → ℕ
value (byte b) = b
value missing = 0
value unread = 0

abbrev pub instead : {X : Type 0} → Result Unit Lack → X → X → X
instead (Ok _) new old = new
instead (Err _) new old = old

-- the buffer behind a read from p on: the bytes where all are bytes, else unchanged
abbrev pub filled : (ℕ → Cell) → ℕ → List ℕ → List ℕ
filled at p old = instead (answer at p (length old)) (map (λ k. value (at (p + k))) (range_with_len 0 (length old))) old

-- the place that a lack names
abbrev pub place_of : Lack → ℕ
place_of (Missing p) = p
place_of (Unread p) = p
