-- How often a layer's prepare asks the picture below.
use Rattle.std.specs.Prelude.{◌≡◌, ℕ, ◌^◌, ◌<◌, ◌≤◌, []}
use Rattle.picture.specs.declared.rect.Rect.{Rect}
use Rattle.picture.specs.Refusals.{Outcome, refused}
use Rattle.picture.specs.Steps.{Formula}
use Rattle.layer.specs.Aims.{Needless}
use Rattle.layer.specs.Layers.{raised}

-- the count of below before and after a prepare of a rectangle, by the formulas of the layer's places and what was answered:
-- it never falls, and it stays where the rectangle is refused as 10 or 11, or needs nothing of below
pub record Asked (φ : ℕ → ℕ → Formula) (r : Rect) (a : Outcome) (before after : ℕ) : Type 0 where
  pub times : ℕ
  pub counts : after ≡ raised times before
  pub grows : before < 2 ^ 64 → before ≤ after
  pub outside : a ≡ refused 10 [] → after ≡ before
  pub short : a ≡ refused 11 [] → after ≡ before
  pub needless : Needless φ r → after ≡ before
