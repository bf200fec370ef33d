use Rattle.std.proofs.Common.{◌≤◌, length}
use Rattle.picture.specs.Prepare.{Shown, lined}
use Rattle.source.specs.Showing.{SameFile, shown_of}
use Rattle.source.proofs.file.FileSourceRows.row.Given as goal

-- the runs so far are shown
abbrev pub invariant-loop-from : goal.invariant-loop-from
invariant-loop-from g l =
    Shown g.K.Kind.ops (lined (shown_of g.K.Kind.ops g.S.Store.at l.initial.self) l.left l.row) l.from l.out
    × SameFile l.initial.self l.self
    × (l.from ≤ length l.out)
