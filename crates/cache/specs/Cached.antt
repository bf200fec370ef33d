-- What a contract sees of a cache.
use Rattle.std.specs.Prelude.{ℕ}
use Rattle.cache.specs.declared.shape.TileShape.{TileShape}
use Rattle.cache.specs.declared.tiles.Tiles.{Tiles}

-- the picture below, the tiles that are kept of it, and the prepares made
pub record Cached (P : Type 0) : Type 0 where
  pub below : P
  pub shape : TileShape
  pub tiles : Tiles
  pub count : ℕ
