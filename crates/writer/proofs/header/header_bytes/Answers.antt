use Rattle.std.proofs.Common.{arith}
use Rattle.writer.proofs.Heads.{length-header}
use Rattle.writer.proofs.header.header_bytes.Goals as goal

pub returns : goal.returns
returns c = record {
  value = λ mark. omega (arith, length-header mark c.args.size.width c.args.size.height c.args.size.maxval, c.digits.ensures.value, c.digits-2.ensures.value, c.digits-3.ensures.value);
  small = omega (arith, c.digits.ensures.small, c.digits-2.ensures.small, c.digits-3.ensures.small);
}
