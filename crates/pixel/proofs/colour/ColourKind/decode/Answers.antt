use Rattle.std.proofs.Common.{◌^◌, Some, sym, ap, ◌∙◌, rules}
use Rattle.std.proofs.lemmas.Bool.{lt-ltb, cond-true}
use Rattle.pixel.specs.Sampling.{colour_same}
use Rattle.pixel.proofs.colour.ColourKind.decode.Goals as goal

pub returns-then-code-lt281474976710656 : goal.returns-then-code-lt281474976710656
returns-then-code-lt281474976710656 c =
    ap Some (colour_same _ _ (search rules) (search rules) (search rules))
    ∙ sym (cond-true _ _ _ (lt-ltb c.args.code (2 ^ 48) c.if-code-lt281474976710656.true))
