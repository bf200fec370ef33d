-- What makes a layer: a step that can stand over the picture below.
use Rattle.std.specs.Prelude.{◌≡◌, true}
use Rattle.picture.specs.declared.size.Size.{Size}
use Rattle.picture.specs.declared.step.Step.{Step}
use Rattle.picture.specs.Images.{Image}
use Rattle.picture.specs.Steps.{allowed, fitting}

-- the size is that of the picture below, and the step can stand over it
pub record Stands {K : Type 0} (b : Image K) (s : Step) (z : Size) : Type 0 where
  pub width : z.width ≡ b.width
  pub height : z.height ≡ b.height
  pub maxval : z.maxval ≡ b.maxval
  pub allowed : allowed s ≡ true
  pub fits : fitting s z.width z.height ≡ true
