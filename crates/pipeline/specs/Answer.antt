-- When a prepare fits the picture that it asks.
use Rattle.std.specs.Prelude.{ℕ, ◌+◌, ◌≤◌, List, length}
use Rattle.picture.specs.declared.rect.Rect.{Rect}
use Rattle.picture.specs.Images.{Image}
use Rattle.picture.specs.Prepare.{area}

-- the rectangle is inside the picture, and the buffer has an entry for each of its places
pub record Fits {K : Type 0} (i : Image K) (r : Rect) (buffer : List ℕ) : Type 0 where
  pub across : r.left + r.width ≤ i.width
  pub down : r.top + r.height ≤ i.height
  pub room : area r ≤ length buffer
