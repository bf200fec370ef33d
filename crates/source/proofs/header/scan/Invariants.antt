use Rattle.std.proofs.Common.{◌≡◌, ◌+◌, drop}
use Rattle.source.specs.Header.{run, start}
use Rattle.source.proofs.header.scan.Given as goal

-- what is left to read gives what the whole gives
abbrev pub invariant-loop-i : goal.invariant-loop-i
invariant-loop-i l = run start 2 l.rest ≡ run l.reader (l.i + 2) (drop l.i l.rest)
