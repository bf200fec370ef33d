use Rattle.std.proofs.Common.{◌+◌, ◌/◌, ◌%◌, ◌^◌, ◌<◌, decimal, sym, ap, ◌∙◌, arith}
use Rattle.std.proofs.lemmas.Fmt.{decimal_digit}
use Rattle.writer.specs.Calls.{over}
use Rattle.writer.proofs.Figures.{step, length-step, length_digit}
use Rattle.writer.proofs.Paste.{over_one, over_push}
use Rattle.writer.proofs.header.+put_number.Goals as goal

pub bounds-out-0 : goal.bounds-out-0
bounds-out-0 t c = omega (arith, length_digit c.args.n c.if-n-lt10.true)

pub put_number-end-requires : goal.put_number-end-requires
put_number-end-requires t c = let f : c.args.n < 2 ^ 32 = omega (arith, c.ranges.n) in omega (arith, length-step c.args.n c.if-n-lt10.false f)

pub bounds-out-end : goal.bounds-out-end
bounds-out-end t c = let f : c.args.n < 2 ^ 32 = omega (arith, c.ranges.n) in omega (arith, length-step c.args.n c.if-n-lt10.false f, c.put_number-end.ensures.end, c.put_number-end.auto.out)

pub returns-then-n-lt10 : goal.returns-then-n-lt10
returns-then-n-lt10 t c =
    let l = length_digit c.args.n c.if-n-lt10.true in
    record {
      end = omega arith;
      out = over_one c.args.out.now (48 + c.args.n) (omega arith) ∙ ap (λ b. over b c.args.out.now) (sym (decimal_digit c.args.n c.if-n-lt10.true));
    }

pub returns-else-n-lt10 : goal.returns-else-n-lt10
returns-else-n-lt10 t c =
    let f : c.args.n < 2 ^ 32 = omega (arith, c.ranges.n) in
    let l = length-step c.args.n c.if-n-lt10.false f in
    record {
      end = omega (arith, c.put_number-end.ensures.end);
      out = over_push c.args.out.now c.put_number-end.new.out (decimal (c.args.n / 10)) c.put_number-end.result (48 + c.args.n % 10)
          c.put_number-end.ensures.out (sym c.put_number-end.ensures.end) (omega (arith, c.put_number-end.ensures.end))
          ∙ ap (λ b. over b c.args.out.now) (sym (step c.args.n c.if-n-lt10.false f));
    }
