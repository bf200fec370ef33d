use Rattle.cache.specs.Boxes.{Copied, Others}
use Rattle.cache.proofs.blit.blit.Given as goal

abbrev pub invariant-loop-j : goal.invariant-loop-j
invariant-loop-j l = record { copied : Copied l.from l.stride l.to l.pitch l.wide l.j; others : Others l.initial.to l.to l.pitch l.wide l.j }
