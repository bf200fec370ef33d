use Rattle.std.proofs.Common.{◌≡◌, ℕ, ◌+◌, length}
use Rattle.picture.specs.Places.{Place}
use Rattle.picture.specs.Prepare.{Shown}
use Rattle.survey.specs.Surveys.{seen, onward}
use Rattle.survey.proofs.findings.Survey.note_pixels.Given as goal

abbrev pub invariant-loop-code : goal.invariant-loop-code
invariant-loop-code g l = record {
  counts : seen l.self ≡ seen l.initial.self + l.code-index;
  so_far : (f : ℕ → Place _) → Shown g.K.Kind.ops f (length l.codes) l.codes → l.self ≡ onward g.K.Kind.ops l.initial.self f l.code-index;
}
