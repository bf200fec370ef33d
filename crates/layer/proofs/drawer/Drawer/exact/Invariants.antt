use Rattle.std.proofs.Common.{◌≡◌, Some}
use Rattle.picture.specs.Prepare.{coded}
use Rattle.layer.specs.Laid.{Laid}
use Rattle.layer.specs.Layers.{Kept}
use Rattle.layer.specs.Seen.{layered_of, seen}
use Rattle.layer.proofs.drawer.Drawer.exact.Given as goal

abbrev pub invariant-loop-j : goal.invariant-loop-j
invariant-loop-j g l =
    Laid l.piece.whole l.piece.part.left l.piece.part.top l.piece.part.width l.j (λ u v c. coded g.P.Pixel.Kind.ops ((layered_of g.P.Pixel.Kind.ops g.P.Picture.model l.initial.self).shown.at u v) ≡ Some c) l.initial.buffer l.buffer
    × Kept g.P.Pixel.Kind.ops g.P.Picture.model g.P.Picture.count (seen l.initial.self) (seen l.self)
