use Rattle.std.proofs.Common.{Some, sym, ap, ◌∙◌, rules}
use Rattle.std.proofs.lemmas.Bool.{lt-ltb, cond-true}
use Rattle.pixel.specs.Sampling.{grey_same}
use Rattle.pixel.proofs.grey.GreyKind.decode.Goals as goal

pub returns-then-code-lt65536 : goal.returns-then-code-lt65536
returns-then-code-lt65536 c =
    ap Some (grey_same _ _ (search rules)) ∙ sym (cond-true _ _ _ (lt-ltb c.args.code 65536 c.if-code-lt65536.true))
