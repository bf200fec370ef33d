use Rattle.std.proofs.Common.{◌≡◌, ℕ, ◌*◌, ◌<◌, get_or, Some}
use Rattle.source.specs.Raster.{code_of, from, sample_bytes, wide}
use Rattle.source.proofs.samples.decode.Given as goal

abbrev pub invariant-loop-k : goal.invariant-loop-k
invariant-loop-k g l =
    (l.at ≡ l.k * l.step)
    × ((j : ℕ) → j < l.k → code_of g.K.Kind.ops (wide l.maxval) l.maxval (from l.bytes (j * (g.K.Kind.ops.depth * sample_bytes (wide l.maxval)))) ≡ Some (get_or l.out j 0))
