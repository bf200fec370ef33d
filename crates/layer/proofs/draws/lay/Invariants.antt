use Rattle.std.proofs.Common.{◌≡◌, ◌-◌}
use Rattle.layer.specs.Laid.{Laid}
use Rattle.layer.proofs.draws.lay.Given as goal

abbrev pub invariant-loop-j : goal.invariant-loop-j
invariant-loop-j g l =
    Laid l.piece.whole l.piece.part.left l.piece.part.top l.piece.part.width l.j (λ u v c. c ≡ g.D.Draw.drawn l.draw l.codes (u - l.piece.part.left) (v - l.piece.part.top)) l.initial.buffer l.buffer
