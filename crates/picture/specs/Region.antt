-- The region of a place: the places of the source that it needs.
use Rattle.std.specs.Prelude.{◌≡◌, ℕ, ◌+◌, ◌<◌, ◌≤◌, List, [], ◌∷◌}
use Rattle.pixel.specs.Ops.{Ops}
use Rattle.picture.specs.declared.rect.Rect.{Rect}
use Rattle.picture.specs.declared.step.Step.{Step}
use Rattle.picture.specs.Images.{Image}
use Rattle.picture.specs.Steps.{Formula, black, white, copied, mixed, formula}
use Rattle.picture.specs.Compose.{composed}

-- P holds of each place below that a formula names, whatever its weight; a black or white ground names none
abbrev pub needed : Formula → (ℕ → ℕ → Type 0) → Type 0
needed black P = Unit {0}
needed white P = Unit {0}
needed (copied x y) P = P x y
needed (mixed n tap scale offset) P = (k : ℕ) → k < n → P (tap k).column (tap k).row

-- the place lies in the rectangle
pub record Within (r : Rect) (u v : ℕ) : Type 0 where
  pub left : r.left ≤ u
  pub top : r.top ≤ v
  pub right : u < r.left + r.width
  pub bottom : v < r.top + r.height

module _ {K S : Type 0} (o : Ops K S) where
  -- P holds of each place of the source that (u, v) needs
  abbrev pub region : List Step → Image K → ℕ → ℕ → (ℕ → ℕ → Type 0) → Type 0
  region [] source u v P = P u v
  region (s ∷ ss) source u v P = needed (formula s (composed o ss source).width (composed o ss source).height u v) (λ x y. region ss source x y P)

  -- P holds of each place of the source that a rectangle's places in the picture need
  abbrev pub region_of : List Step → Image K → Rect → (ℕ → ℕ → Type 0) → Type 0
  region_of ss source r P = (u v : ℕ) → Within r u v → u < (composed o ss source).width → v < (composed o ss source).height → region ss source u v P

  -- two sources agree in size, maxval, and in the pixel or fault of each place of a rectangle's region
  pub record Alike (ss : List Step) (r : Rect) (a b : Image K) : Type 0 where
    pub width : a.width ≡ b.width
    pub height : a.height ≡ b.height
    pub maxval : a.maxval ≡ b.maxval
    pub places : region_of ss a r (λ x y. a.at x y ≡ b.at x y)
