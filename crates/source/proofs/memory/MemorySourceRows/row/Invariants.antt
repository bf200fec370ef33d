use Rattle.picture.specs.Prepare.{Shown, lined}
use Rattle.source.specs.Memory.{remembered_of}
use Rattle.source.proofs.memory.MemorySourceRows.row.Given as goal

abbrev pub invariant-loop-k : goal.invariant-loop-k
invariant-loop-k g l = Shown g.K.Kind.ops (lined (remembered_of g.K.Kind.ops g.C.Codes.codes l.self) l.left l.row) l.k l.out
