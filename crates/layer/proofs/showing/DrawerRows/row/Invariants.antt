use Rattle.picture.specs.Prepare.{Shown, lined}
use Rattle.layer.specs.Layers.{Kept}
use Rattle.layer.specs.Seen.{layered_of, seen}
use Rattle.layer.proofs.showing.DrawerRows.row.Given as goal

abbrev pub invariant-loop-k : goal.invariant-loop-k
invariant-loop-k g l =
    Shown g.P.Pixel.Kind.ops (lined (layered_of g.P.Pixel.Kind.ops g.P.Picture.model l.initial.self).shown l.left l.row) l.k l.out
    × Kept g.P.Pixel.Kind.ops g.P.Picture.model g.P.Picture.count (seen l.initial.self) (seen l.self)
