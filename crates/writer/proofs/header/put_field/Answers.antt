use Rattle.std.proofs.Common.{decimal, sym, arith}
use Rattle.writer.specs.File.{field}
use Rattle.writer.proofs.Paste.{over_push}
use Rattle.writer.proofs.Figures.{length_small}
use Rattle.writer.proofs.header.put_field.Goals as goal

pub returns : goal.returns
unfolding field
returns c = record {
  end = omega (arith, c.put_number-end.ensures.end);
  few = omega (arith, c.put_number-end.ensures.end, length_small c.args.n (omega (arith, c.ranges.n)));
  out = over_push c.args.out.now c.put_number-end.new.out (decimal c.args.n) c.put_number-end.result c.args.behind
      c.put_number-end.ensures.out (sym c.put_number-end.ensures.end) (omega (arith, c.put_number-end.ensures.end));
}
