use Rattle.std.proofs.Common.{◌≡◌, ◌*◌, get_or}
use Rattle.std.specs.List.{range_with_len, flat_map}
use Rattle.writer.specs.File.{sample_bytes, sample_width}
use Rattle.writer.specs.Calls.{over}
use Rattle.writer.proofs.layout.put_pixel.Given as goal

abbrev pub invariant-loop-k : goal.invariant-loop-k
invariant-loop-k g l =
    (l.end ≡ l.k * sample_width l.maxval)
    × (l.out ≡ over (flat_map (λ k. sample_bytes l.maxval (get_or (g.K.Kind.ops.samples l.pixel) k 0)) (range_with_len 0 l.k)) l.initial.out)
