use Rattle.std.proofs.Common.{refl, arith}
use Rattle.std.proofs.lemmas.List.{length-take, length-drop}
use Rattle.store.specs.Cells.{capped}
use Rattle.store.proofs.Joining.{both_read}
use Rattle.store.proofs.joined.JoinedStore.read.Goals as goal

pub returns-clause-buffer : goal.returns-clause-buffer
returns-clause-buffer g c =
    both_read (capped (g.A.Store.at c.args.self.now.first)) (capped (g.B.Store.at c.args.self.now.second)) c.args.place c.args.self.now.from
    c.min-low.result c.saturating_sub-start.result _ c.args.buffer.now _ _ c.read.new.buffer c.read-2.new.buffer _ _
    c.in_ok-check.ensures (omega arith) c.saturating_sub-start.ensures (simp length-take (omega arith)) (simp (length-take, length-drop) (omega arith))
    c.read.auto.buffer c.read.ensures.buffer c.read-2.auto.buffer c.read-2.ensures.buffer (omega arith) refl
