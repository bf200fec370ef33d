use Rattle.std.proofs.Common.{◌≡◌, ◌+◌, ◌^◌, ◌<◌, length, decimal, sym, ap, ◌∙◌, arith}
use Rattle.writer.proofs.Figures.{length-step, length_digit, length_small}
use Rattle.writer.proofs.header.+digits.Goals as goal

pub returns-then-n-lt10 : goal.returns-then-n-lt10
returns-then-n-lt10 t c = record { value = sym (length_digit c.args.n c.if-n-lt10.true); small = omega arith }

pub returns-else-n-lt10 : goal.returns-else-n-lt10
returns-else-n-lt10 t c =
    let f : c.args.n < 2 ^ 32 = omega (arith, c.ranges.n) in
    let e : c.digits.result + 1 ≡ length (decimal c.args.n) = ap (λ k. k + 1) c.digits.ensures.value ∙ sym (length-step c.args.n c.if-n-lt10.false f) in
    record { value = e; small = omega (arith, length_small c.args.n f) }
