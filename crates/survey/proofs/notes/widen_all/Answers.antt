use Rattle.std.proofs.Common.{◌≡◌, length, get_or, sym, refl, ap, ◌∙◌, arith, rules}
use Rattle.std.specs.List.{fold, range_with_len}
use Rattle.std.proofs.lemmas.Iterator.{YieldsList-from_range}
use Rattle.std.proofs.lemmas.Iterator.Consumers.{fold_from_yields_List}
use Rattle.survey.specs.Surveys.{wider}
use Rattle.survey.proofs.Onward.{fold-wider}
use Rattle.survey.proofs.notes.widen_all.Goals as goal

pub returns : goal.returns
returns g c =
    let xs = g.K.Kind.ops.samples c.args.pixel in
    let n : c.depth.result ≡ length xs = c.depth.ensures ∙ sym (g.met.K.Kind.deep c.args.pixel) in
    let e : c.fold.result ≡ fold (λ r i. wider r (get_or xs i 0)) c.args.range (range_with_len 0 c.depth.result) =
    fold_from_yields_List _ (λ r i. wider r (get_or xs i 0)) _ _ c.fold.ensures.ran (YieldsList-from_range 0 c.depth.result c.depth.result refl (omega arith)) (λ a x b q k. search rules) in
    e ∙ ap (λ k. fold (λ r i. wider r (get_or xs i 0)) c.args.range (range_with_len 0 k)) n ∙ fold-wider c.args.range xs
