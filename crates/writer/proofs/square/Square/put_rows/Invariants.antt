use Rattle.std.proofs.Common.{◌≡◌, ◌*◌}
use Rattle.writer.specs.File.{pixel_width}
use Rattle.writer.specs.Layout.{rows_bytes}
use Rattle.writer.specs.Calls.{over}
use Rattle.writer.proofs.square.Square.put_rows.Given as goal

abbrev pub invariant-loop-j : goal.invariant-loop-j
invariant-loop-j g l =
    (l.end ≡ l.j * (l.self.side * pixel_width g.K.Kind.ops l.self.maxval))
    × (l.out ≡ over (rows_bytes g.K.Kind.ops l.self.maxval l.self.pad l.self.side l.wide l.codes l.j) l.initial.out)
