use Rattle.std.proofs.Common.{◌≡◌, ◌*◌, get_or}
use Rattle.std.specs.List.{range_with_len, flat_map}
use Rattle.writer.specs.File.{pixel_width}
use Rattle.writer.specs.Layout.{code_bytes}
use Rattle.writer.specs.Calls.{over}
use Rattle.writer.proofs.layout.put_codes.Given as goal

abbrev pub invariant-loop-code : goal.invariant-loop-code
invariant-loop-code g l =
    (l.end ≡ l.code-index * pixel_width g.K.Kind.ops l.maxval)
    × (l.out ≡ over (flat_map (λ k. code_bytes g.K.Kind.ops l.maxval (get_or l.codes k 0)) (range_with_len 0 l.code-index)) l.initial.out)
