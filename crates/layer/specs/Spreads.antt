-- How places of one side of a layer fall on the same side below.
use Rattle.std.specs.Prelude.{◌≡◌, ℕ, ◌+◌, ◌-◌, ◌*◌, ◌<◌, ◌≤◌, min, Bool, true, false, not, ◌==◌, ℤ, pos, ◌-ℤ◌, Some, None, Option}
use Rattle.picture.specs.Steps.{among, nearest}
use Rattle.layer.specs.declared.spread.Spread.{Spread}
use Rattle.layer.specs.declared.spread.Reach.{Reach}

-- n places from u on of a side moved by x, over a side of m places
pub record Falls (s : Spread) (u : ℕ) (x : ℤ) (n m : ℕ) : Type 0 where
  pub side : (i : ℕ) → i < n → among (pos (u + i) -ℤ x) m ≡ not (s.step == 0)
  pub near : (i : ℕ) → i < n → nearest (pos (u + i) -ℤ x) m ≡ s.first + i * s.step
  pub room : (i : ℕ) → i < n → i * s.step < s.count
  pub some : 1 ≤ s.count
  pub within : s.first + s.count ≤ m
  pub single : s.step ≤ 1
  pub lone : n ≡ 1 → s.count ≡ 1

-- some but not all of them are places of the side below
pub record Parted (u : ℕ) (x : ℤ) (n m : ℕ) : Type 0 where
  pub more : 2 ≤ n
  pub place : ℕ
  pub one : place < n
  pub there : among (pos (u + place) -ℤ x) m ≡ true

abbrev pub Spreads : Option Spread → ℕ → ℤ → ℕ → ℕ → Type 0
Spreads None u x n m = Parted u x n m
Spreads (Some s) u x n m = Falls s u x n m

-- the masks of n places from u on, over a side of m places
pub record Reaches (r : Reach) (u n m : ℕ) : Type 0 where
  pub some : 1 ≤ r.count
  pub within : r.first + r.count ≤ m
  pub whole : r.count + r.before ≤ n + 2
  pub near : (i q : ℕ) → i < n → q < 3 → min (u + i + q - 1) (m - 1) ≡ r.first + min (i + q - r.before) (r.count - 1)

-- all of them lie beside the side below
abbrev pub beside : Option Spread → Bool
beside None = false
beside (Some s) = s.step == 0
