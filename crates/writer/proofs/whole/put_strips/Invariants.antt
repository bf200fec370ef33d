use Rattle.std.proofs.Common.{◌≡◌, ◌-◌}
use Rattle.writer.proofs.Wholes.{Far}
use Rattle.writer.proofs.whole.put_strips.Given as goal

abbrev pub invariant-loop-writer : goal.invariant-loop-writer
invariant-loop-writer g l =
    (g.P.Picture.model l.picture ≡ g.P.Picture.model l.initial.picture)
    × Far g.P.Pixel.Kind.ops (g.P.Picture.model l.initial.picture).shown l.writer l.end l.initial.out l.out

abbrev pub decreases-loop-writer : goal.decreases-loop-writer
decreases-loop-writer g l = l.writer.size.height - l.writer.next
