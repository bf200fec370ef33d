-- What a picture means.
use Rattle.std.specs.Prelude.{ℕ, ◌<◌, ◌≤◌, List}
use Rattle.pixel.specs.Ops.{Ops, Under}
use Rattle.picture.specs.declared.step.Step.{Step}
use Rattle.picture.specs.Limits.{largest}
use Rattle.picture.specs.Places.{Place, pixel, hole}

pub record Image (K : Type 0) : Type 0 where
  pub width : ℕ
  pub height : ℕ
  pub maxval : ℕ
  -- column from the left and row from the top, both from 0
  pub at : ℕ → ℕ → Place K

-- a picture with the steps and the source that made it
pub record Model (K : Type 0) : Type 0 where
  pub shown : Image K
  -- the last step first; a source has none
  pub steps : List Step
  pub source : Image K

-- sides and maxval are within their limits
pub record Sized {K : Type 0} (i : Image K) : Type 0 where
  pub wide : 1 ≤ i.width
  pub high : 1 ≤ i.height
  pub bright : 1 ≤ i.maxval
  pub across : i.width ≤ largest
  pub down : i.height ≤ largest
  pub fits : i.maxval ≤ 65535

module _ {K S : Type 0} (o : Ops K S) where
  -- no sample of a pixel is above m
  abbrev pub Dim : ℕ → Place K → Type 0
  Dim m (pixel p) = Under m (o.samples p)
  Dim m (hole f) = Unit {0}

  -- no sample of a picture is above its maxval
  abbrev pub Bounded : Image K → Type 0
  Bounded i = (u v : ℕ) → u < i.width → v < i.height → Dim i.maxval (i.at u v)
