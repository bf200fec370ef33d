use Rattle.std.proofs.Common.{pos, ◌-ℤ◌, nat_abs, arith}
use borrow.Author.Differences.{ints}
use Rattle.layer.proofs.Spreading.{falls_inside, falls_before, falls_behind, parted_at}
use Rattle.layer.proofs.spreads.spread.Goals as goal
use Rattle.layer.proofs.spreads.spread.Goals.{else-start-ge0-via-then-start-ge0+else-end-side, else-start-ge0-via-else-start-ge0}

pub returns-then-end-side : goal.returns-then-end-side
returns-then-end-side c =
    falls_inside c.args.from c.args.offset c.args.count c.args.side _ (omega (arith, ints)) (omega (arith, ints)) c.requires.some

pub returns-then-end-le0 : goal.returns-then-end-le0
returns-then-end-le0 c =
    falls_before c.args.from c.args.offset c.args.count c.args.side (omega (arith, ints)) c.requires.any

pub returns-then-start-side : goal.returns-then-start-side
returns-then-start-side c =
    falls_behind c.args.from c.args.offset c.args.count c.args.side (nat_abs (pos c.args.from -ℤ c.args.offset)) (omega (arith, ints)) (omega (arith, ints)) c.requires.any

pub returns-else-start-side : goal.returns-else-start-side
returns-else-start-side c =
    parted_at c.args.from c.args.offset c.args.count c.args.side (omega (arith, ints)) (omega (arith, ints))
    (λ z. elim c.else-start-ge0.branch [
      | else-start-ge0-via-then-start-ge0+else-end-side w ↦ omega (arith, ints)
      | else-start-ge0-via-else-start-ge0 w ↦ absurd (omega (arith, ints))
    ]) c.requires.any
