-- The sum of a window, column by column.
use Rattle.std.specs.Prelude.{ℕ, zero, suc, ◌+◌, ◌*◌, ℤ, Some, None, Option}
use Rattle.pixel.specs.Ops.{Ops}

abbrev pub or_black : {K : Type 0} → K → Option K → K
or_black d None = d
or_black d (Some p) = p

module _ {K S : Type 0} (o : Ops K S) where
  -- a sum with the first r pixels of column q, in a window whose rows have a places
  abbrev pub downward : (ℕ → K) → (ℕ → ℤ) → ℕ → ℕ → S → ℕ → S
  downward p w a q s zero = s
  downward p w a q s (suc r) = o.more (downward p w a q s r) (p (r * a + q)) (w (r * a + q))

  -- the first q columns, of b rows each
  abbrev pub columned : (ℕ → K) → (ℕ → ℤ) → ℕ → ℕ → ℕ → S
  columned p w a b zero = o.empty
  columned p w a b (suc q) = downward p w a q (columned p w a b q) b
