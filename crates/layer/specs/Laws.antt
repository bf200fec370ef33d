-- What decides a place of a composed picture, and which hole it tells.
use Rattle.std.specs.Prelude.{◌≡◌, ℕ, ◌<◌, ◌≤◌, true, ◌⊎◌, List}
use Rattle.pixel.specs.Ops.{Ops}
use Rattle.picture.specs.declared.fault.Fault.{Fault}
use Rattle.picture.specs.declared.step.Step.{Step}
use Rattle.picture.specs.Compose.{composed, stepped}
use Rattle.picture.specs.Images.{Image}
use Rattle.picture.specs.Places.{hole}
use Rattle.picture.specs.Region.{region}
use Rattle.picture.specs.Steps.{Formula, black, white, copied, mixed, allowed, formula}

-- a formula names the place (x, y)
abbrev pub Names : Formula → ℕ → ℕ → Type 0
Names black x y = ⊥
Names white x y = ⊥
Names (copied a b) x y = (a ≡ x) × (b ≡ y)
Names (mixed n tap scale offset) x y = (k : ℕ) × (k < n) × ((tap k).column ≡ x) × ((tap k).row ≡ y)

-- (x, y) stands before (u, v) in reading order, or is the same place
abbrev pub NoLater : ℕ → ℕ → ℕ → ℕ → Type 0
NoLater x y u v = (y < v) ⊎ ((y ≡ v) × (x ≤ u))

-- among the places that a formula names, the first hole in the reading order of the picture has this fault
pub record FirstHole {K : Type 0} (b : Image K) (φ : Formula) (e : Fault) : Type 0 where
  pub column : ℕ
  pub row : ℕ
  pub named : Names φ column row
  pub here : b.at column row ≡ hole e
  pub first : (x y : ℕ) → Names φ x y → (f : Fault) → b.at x y ≡ hole f → NoLater column row x y

module _ {K S : Type 0} (o : Ops K S) where
  -- two sources agree in size and maxval, and in the pixel or fault of each place that (u, v) needs
  pub record AlikeAt (ss : List Step) (u v : ℕ) (a b : Image K) : Type 0 where
    pub width : a.width ≡ b.width
    pub height : a.height ≡ b.height
    pub maxval : a.maxval ≡ b.maxval
    pub places : region o ss a u v (λ x y. a.at x y ≡ b.at x y)

  -- then the same pixel or fault stands there
  abbrev pub RegionDecides : Type 0
  RegionDecides = (ss : List Step) (u v : ℕ) (a b : Image K) → AlikeAt ss u v a b → (composed o ss a).at u v ≡ (composed o ss b).at u v

  -- a hole of a step tells the first hole among the places that it needs
  abbrev pub FirstHoleTold : Type 0
  FirstHoleTold = (s : Step) (b : Image K) (u v : ℕ) (e : Fault) → allowed s ≡ true → (stepped o s b).at u v ≡ hole e → FirstHole b (formula s b.width b.height u v) e
