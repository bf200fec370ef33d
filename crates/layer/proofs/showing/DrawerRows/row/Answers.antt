use Rattle.std.proofs.Common.{◌≡◌, ◌+◌, length, Err, sym, ap, ◌∙◌, subst, arith}
use Rattle.std.proofs.lemmas.Result.{err_from_is_err_and}
use Rattle.picture.specs.Prepare.{Shown, lined, or_fault}
use Rattle.picture.proofs.Faults.{shown_clean}
use Rattle.layer.specs.Layers.{located}
use Rattle.layer.specs.Seen.{layered_of, seen}
use Rattle.layer.specs.Placing.{kept_follows, kept_layers}
use Rattle.layer.proofs.Rowing.{hole_next, shown-next}
use Rattle.layer.proofs.showing.DrawerRows.row.Goals as goal

pub loop-k-preserved : goal.loop-k-preserved
loop-k-preserved g c =
    let o = g.P.Pixel.Kind.ops in
    let model = g.P.Picture.model in
    let count = g.P.Picture.count in
    let v = kept_layers o model count (seen c.args.self.now) (seen c.loop-k.self) c.loop-k.invariant.1 in (
      shown-next o (lined (layered_of o model c.args.self.now).shown c.args.left c.args.row) c.loop-k.out c.loop-k.k _ (omega arith) c.loop-k.invariant.0
          (c.in_ok-code.ensures.answer ∙ ap (λ m. located o (m.shown.at (c.args.left + c.loop-k.k) c.args.row)) (sym v)),
      kept_follows o model count (seen c.args.self.now) (seen c.loop-k.self) (seen c.place.new.self) c.loop-k.invariant.1 c.place.ensures.kept,
    )

pub returns-in_err-code-clause-answer : goal.returns-in_err-code-clause-answer
returns-in_err-code-clause-answer g c =
    let p = err_from_is_err_and c.from_residual.result c.from_residual.ensures.1 in
    let o = g.P.Pixel.Kind.ops in
    let model = g.P.Picture.model in
    let v = kept_layers o model g.P.Picture.count (seen c.args.self.now) (seen c.loop-k.self) c.loop-k.invariant.1 in
    p.1 ∙ ap Err p.2
    ∙ hole_next o (lined (layered_of o model c.args.self.now).shown c.args.left c.args.row) c.loop-k.out c.loop-k.k (length c.args.out.now) _ (omega arith) c.loop-k.invariant.0
    (c.in_err-code.ensures.answer ∙ ap (λ m. located o (m.shown.at (c.args.left + c.loop-k.k) c.args.row)) (sym v))

pub returns-in_err-code-clause-same : goal.returns-in_err-code-clause-same
returns-in_err-code-clause-same g c = kept_follows g.P.Pixel.Kind.ops g.P.Picture.model g.P.Picture.count (seen c.args.self.now) (seen c.loop-k.self) (seen c.place.new.self) c.loop-k.invariant.1 c.place.ensures.kept

pub returns-clause-answer : goal.returns-clause-answer
returns-clause-answer g c =
    let o = g.P.Pixel.Kind.ops in
    let f = lined (layered_of o g.P.Picture.model c.args.self.now).shown c.args.left c.args.row in
    let e : c.loop-k.k ≡ length c.args.out.now = omega arith in
    ap or_fault (sym (shown_clean o f (length c.args.out.now) c.loop-k.out (subst (λ n. Shown o f n c.loop-k.out) e c.loop-k.invariant.0)))
