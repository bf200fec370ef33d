use Rattle.std.proofs.Common.{◌≡◌, ◌*◌}
use Rattle.writer.specs.File.{pixel_width, pixel_bytes}
use Rattle.writer.specs.Layout.{repeated}
use Rattle.writer.specs.Calls.{over}
use Rattle.writer.proofs.layout.put_same.Given as goal

abbrev pub invariant-loop : goal.invariant-loop
invariant-loop g l =
    (l.end ≡ l.counter * pixel_width g.K.Kind.ops l.maxval)
    × (l.out ≡ over (repeated (pixel_bytes g.K.Kind.ops l.maxval l.pixel) l.counter) l.initial.out)
