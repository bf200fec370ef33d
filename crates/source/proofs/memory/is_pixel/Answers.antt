use Rattle.std.proofs.Common.{sym, refl, ap, ◌∙◌, get_or, leb, arith, rules, tests}
use Rattle.std.proofs.lemmas.Iterator.{YieldsList-from_range}
use Rattle.std.proofs.lemmas.Iterator.Search.{all_from_yields_List}
use Rattle.source.specs.Memory.{accepted_by}
use Rattle.source.specs.Sampling.{under_each}
use Rattle.source.proofs.memory.is_pixel.Goals as goal

pub returns : goal.returns
returns g c =
    let o = g.K.Kind.ops in
    all_from_yields_List (λ k. leb (get_or (o.samples c.in-Some.pixel) k 0) c.args.maxval) _ _ _ c.all.ensures.ran (YieldsList-from_range 0 c.depth.result c.depth.result refl (omega arith))
    (λ x b q k. search (rules, tests))
    ∙ under_each c.args.maxval c.depth.result (o.samples c.in-Some.pixel) (g.met.K.Kind.deep c.in-Some.pixel ∙ sym c.depth.ensures)
    ∙ ap (accepted_by o c.args.maxval) c.in-Some.ensures
