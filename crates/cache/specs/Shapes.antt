-- Which numbers make a shape of tiles.
use Rattle.std.specs.Prelude.{◌≡◌, ℕ, ◌*◌, Bool, false, ◌&&◌, [], Ok, Err, Result, nat_le}
use Rattle.picture.specs.declared.fault.Refusal.{Refusal}
use Rattle.picture.specs.Refusals.{refused, told}
use Rattle.cache.specs.declared.shape.TileShape.{TileShape}
use Rattle.cache.specs.Limits.{most_places, most_tiles}

-- both sides are at least 1, a tile has at most 256 places, and 1 to 16 tiles are held
abbrev pub shapely : ℕ → ℕ → ℕ → Bool
shapely w h n = (nat_le 1 w && (nat_le 1 h && nat_le (w * h) most_places)) && (nat_le 1 n && nat_le n most_tiles)

-- the shape of these numbers, or 5 where they are outside the limits
abbrev pub ShapeMade : ℕ → ℕ → ℕ → Result TileShape Refusal → Type 0
ShapeMade w h n (Ok s) = (s.width ≡ w) × (s.height ≡ h) × (s.slots ≡ n)
ShapeMade w h n (Err e) = (shapely w h n ≡ false) × (told e ≡ refused 5 [])
