use Rattle.std.proofs.Common.{◌/◌}
use Rattle.cache.proofs.Walking.{number, Sofar}
use Rattle.cache.proofs.keeper.Keeper.walk.Given as goal

abbrev pub invariant-loop-row : goal.invariant-loop-row
invariant-loop-row g l = Sofar l.rect l.fn.self l.fn.buffer (number l.fn.self.shape l.rect (l.rect.left / l.fn.self.shape.width) l.row) l.self l.buffer

abbrev pub invariant-loop-column : goal.invariant-loop-column
invariant-loop-column g l = Sofar l.rect l.fn.self l.fn.buffer (number l.fn.self.shape l.rect l.column l.row) l.self l.buffer
