use Rattle.std.proofs.Common.{◌+◌, ◌-◌, ◌*◌}
use Rattle.survey.proofs.Underway.{Underway}
use Rattle.survey.proofs.surveying.survey.Given as goal

abbrev pub invariant-loop-place : goal.invariant-loop-place
invariant-loop-place g l = Underway g.P.Pixel.Kind.ops g.P.Picture.model g.P.Picture.count l.initial.picture l.picture l.buffer l.survey l.place l.count l.run

-- the places that are left, and then the run
abbrev pub decreases-loop-place : goal.decreases-loop-place
decreases-loop-place g l = (l.count - l.place) * 8192 + l.run
