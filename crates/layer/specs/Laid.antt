-- What writing a part of a rectangle leaves in the rectangle's buffer.
use Rattle.std.specs.Prelude.{◌≡◌, ℕ, ◌+◌, ◌<◌, ◌≤◌, List, Some, slice_index}
use Rattle.picture.specs.declared.rect.Rect.{Rect}
use Rattle.pixel.specs.Ops.{Ops}
use Rattle.picture.specs.Images.{Image}
use Rattle.picture.specs.Prepare.{coded}
use Rattle.picture.specs.Region.{Within}
use Rattle.layer.specs.Aims.{spot}

-- the part lies in the rectangle
pub record Part (r p : Rect) : Type 0 where
  pub left : r.left ≤ p.left
  pub top : r.top ≤ p.top
  pub right : p.left + p.width ≤ r.left + r.width
  pub bottom : p.top + p.height ≤ r.top + r.height

-- (u, v) is one of w columns from x on and of h rows from y on
pub record Among (x y w h u v : ℕ) : Type 0 where
  pub left : x ≤ u
  pub top : y ≤ v
  pub right : u < x + w
  pub bottom : v < y + h

-- P of each of these places and its code; every other place of the rectangle is as before
pub record Laid (r : Rect) (x y w h : ℕ) (P : ℕ → ℕ → ℕ → Type 0) (before after : List ℕ) : Type 0 where
  pub inside : (u v : ℕ) → Among x y w h u v → P u v (slice_index after (spot r u v))
  pub outside : (u v : ℕ) → Within r u v → (Among x y w h u v → ⊥) → slice_index after (spot r u v) ≡ slice_index before (spot r u v)

-- a picture's places of the part are pixels, with these codes
abbrev pub Shows : {K S : Type 0} → Ops K S → Image K → Rect → Rect → List ℕ → List ℕ → Type 0
Shows o b r p = Laid r p.left p.top p.width p.height (λ u v c. coded o (b.at u v) ≡ Some c)
