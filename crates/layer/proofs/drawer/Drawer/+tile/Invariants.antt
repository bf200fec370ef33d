use Rattle.std.proofs.Common.{◌+◌}
use Rattle.layer.proofs.drawer.Drawer.+tile.Given as goal

abbrev pub decreases-tile : goal.decreases-tile
decreases-tile g l = l.piece.part.width + l.piece.part.height
