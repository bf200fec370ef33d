-- The bytes that a store begins with.
use Rattle.std.specs.Prelude.{◌≡◌, ℕ, zero, suc, ◌+◌, ◌<◌, ◌≤◌, List, [], ◌∷◌, Err, Result}
use Rattle.store.specs.Cells.{Cell, byte, missing, unread, capped}
use Rattle.source.specs.declared.header.Header.{Header}
use Rattle.source.specs.declared.header.HeaderError.{HeaderError}
use Rattle.source.specs.declared.header.HeaderError.TheVariants.{End}
use Rattle.source.specs.Limits.{header_limit}

-- a byte goes on; a place that is missing or unread ends the bytes
abbrev pub more : Cell → List ℕ → List ℕ
more (byte b) bs = b ∷ bs
more missing bs = []
more unread bs = []

-- the bytes from p on, before the first place that is none, up to n of them
unfoldable pub available : (ℕ → Cell) → ℕ → ℕ → List ℕ
available at p zero = []
available at p (suc n) = more (at p) (available at (p + 1) n)

-- the bytes that a store begins with, of which a header may take up to 4,096
abbrev pub beginning : (ℕ → Cell) → List ℕ
beginning at = available (capped at) 0 header_limit

-- a byte stands here
abbrev pub HasByte : Cell → Type 0
HasByte c = (b : ℕ) × (c ≡ byte b)

-- p is the first place that has no byte, or n where all places before n have one
pub record FirstLack (at : ℕ → Cell) (n p : ℕ) : Type 0 where
  pub within : p ≤ n
  pub bytes : (k : ℕ) → k < p → HasByte (at k)
  pub lacks : p < n → HasByte (at p) → ⊥

-- a header that only ended did so at the first place that has no byte, or behind the first 4,096
abbrev pub EndsAtLack : (ℕ → Cell) → Result Header HeaderError → Type 0
EndsAtLack at r = (p : ℕ) → r ≡ Err (End p) → FirstLack at header_limit p
