-- A box of entries copied from one list into another.
use Rattle.std.specs.Prelude.{◌≡◌, ℕ, ◌+◌, ◌-◌, ◌*◌, ◌<◌, ◌≤◌, List, ◌≢◌, slice_index}
use Rattle.picture.specs.declared.rect.Rect.{Rect}
use Rattle.picture.specs.Prepare.{area}
use Rattle.picture.specs.Region.{Within}

-- a box is `wide` by `high` entries; its rows begin each `stride` further, or each `pitch` further
abbrev pub Copied : List ℕ → ℕ → List ℕ → ℕ → ℕ → ℕ → Type 0
Copied from stride to pitch wide high = (j : ℕ) → j < high → (i : ℕ) → i < wide → slice_index to (j * pitch + i) ≡ slice_index from (j * stride + i)

-- what lies outside the box is as it was
abbrev pub Others : List ℕ → List ℕ → ℕ → ℕ → ℕ → Type 0
Others was to pitch wide high = (k : ℕ) → ((j : ℕ) → j < high → (i : ℕ) → i < wide → k ≢ j * pitch + i) → slice_index to k ≡ slice_index was k

-- a place's number in a rectangle, in reading order
abbrev pub spot : Rect → ℕ → ℕ → ℕ
spot r x y = (y - r.top) * r.width + (x - r.left)

-- what lies past a rectangle's entries is as it was
abbrev pub Beyond : Rect → List ℕ → List ℕ → Type 0
Beyond r was to = (k : ℕ) → area r ≤ k → slice_index to k ≡ slice_index was k

-- the entries of one rectangle are laid over those of another where they have places in common
pub record Overlaid (entries : List ℕ) (cell rect : Rect) (was to : List ℕ) : Type 0 where
  pub inside : (x y : ℕ) → Within cell x y → Within rect x y → slice_index to (spot rect x y) ≡ slice_index entries (spot cell x y)
  pub outside : (x y : ℕ) → (Within cell x y → ⊥) → Within rect x y → slice_index to (spot rect x y) ≡ slice_index was (spot rect x y)
  pub rest : Beyond rect was to
