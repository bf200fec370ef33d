use Rattle.std.proofs.Common.{◌+◌, ◌*◌, ◌≤◌, ℕ, ap, ◌∙◌, mul_comm, arith, to_z-of_z, w32, SFits, rules}
use Rattle.std.proofs.iter.Serving.{serving}
use Rattle.picture.proofs.Serving.{row_end}
use Rattle.layer.specs.Aims.{lens_pixel}
use Rattle.layer.proofs.Summing.{by_columns, folded_columns, held_columns_as, serves_columns}
use Rattle.layer.proofs.mix.Blended.mix.Goals as goal

pub fold-sum-requires-clause-callable : goal.fold-sum-requires-clause-callable
fold-sum-requires-clause-callable g c =
    let o = g.K.Kind.ops in
    let b = c.args.self.now in
    let l = b.lens in
    let w = g.W.Weights.weighs b.filter.weights in
    let p = lens_pixel o c.args.codes.now l c.args.i c.args.j in
    serves_columns o g.K.Kind.held g.met.K.Kind.grown p w b.filter.light g.met.K.Kind.begun l.columns l.rows _ _ _ _ c.empty.ensures
    (λ s x v q k. search rules)
    (λ s x lt h.
    let room : (n : ℕ) × g.K.Kind.held s n × (n + l.rows ≤ 4096) = (x * l.rows, h, row_end x l.rows l.columns 4096 lt (omega (arith, mul_comm l.rows l.columns, c.requires.few.few))) in
    grind serving)

pub finish-requires-clause-room : goal.finish-requires-clause-room
finish-requires-clause-room g c =
    let o = g.K.Kind.ops in
    let b = c.args.self.now in
    let l = b.lens in
    let w = g.W.Weights.weighs b.filter.weights in
    let p = lens_pixel o c.args.codes.now l c.args.i c.args.j in (
      l.columns * l.rows,
      held_columns_as o g.K.Kind.held g.met.K.Kind.grown p w b.filter.light g.met.K.Kind.begun l.columns l.rows l.columns _
          (folded_columns o p w l.columns l.rows _ _ _ _ c.fold-sum.ensures.ran c.empty.ensures (λ s x v q k. search rules)),
      c.requires.few.few,
    )

pub returns : goal.returns
returns g c =
    let o = g.K.Kind.ops in
    let b = c.args.self.now in
    let l = b.lens in
    let w = g.W.Weights.weighs b.filter.weights in
    let p = lens_pixel o c.args.codes.now l c.args.i c.args.j in
    let f : SFits w32 b.filter.offset = search rules in
    c.finish.ensures
    ∙ ap (λ z. o.finish c.fold-sum.result b.filter.scale z b.maxval) (to_z-of_z f)
    ∙ ap (λ s. o.finish s b.filter.scale b.filter.offset b.maxval)
    (folded_columns o p w l.columns l.rows _ _ _ _ c.fold-sum.ensures.ran c.empty.ensures (λ s x v q k. search rules) ∙ by_columns o g.met.K.Kind.commutes p w l.columns l.rows)
