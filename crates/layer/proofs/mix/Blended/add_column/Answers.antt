use Rattle.std.proofs.Common.{◌≡◌, ◌+◌, ◌-◌, ◌*◌, min, get_or, sym, ap, ◌∙◌, arith, to_z-of_z, w32, SFits, to_z, of_z, rules}
use Rattle.layer.specs.Aims.{lens_column, lens_row, lens_pixel, lens_spot}
use Rattle.layer.specs.Sums.{downward}
use Rattle.layer.proofs.Reading.{spot_at}
use Rattle.layer.proofs.Summing.{downward_more, held_down_as, or_black_is}
use Rattle.layer.proofs.mix.Blended.add_column.Goals as goal

pub more-sum-requires-clause-room : goal.more-sum-requires-clause-room
more-sum-requires-clause-room g c =
    let o = g.K.Kind.ops in
    let w = g.W.Weights.weighs c.args.self.now.filter.weights in
    let p = lens_pixel o c.args.codes.now c.args.self.now.lens c.args.i c.args.j in
    let room = c.requires.room in (
      room.0 + c.loop-r.r,
      held_down_as o g.K.Kind.held g.met.K.Kind.grown p w c.args.self.now.filter.light c.args.self.now.lens.columns c.args.q c.args.sum c.loop-r.sum room.0 c.loop-r.r c.loop-r.invariant room.1,
      omega (arith, room.2),
    )

pub loop-r-preserved : goal.loop-r-preserved
loop-r-preserved g c =
    let o = g.K.Kind.ops in
    let l = c.args.self.now.lens in
    let k = c.loop-r.r * l.columns + c.args.q in
    let w = g.W.Weights.weighs c.args.self.now.filter.weights in
    let p = lens_pixel o c.args.codes.now l c.args.i c.args.j in
    let f : SFits w32 c.weight-weight.result = search rules in
    let e : to_z w32 (of_z w32 c.weight-weight.result) ≡ w k = to_z-of_z f ∙ c.weight-weight.ensures in
    let row : c.min-row.result ≡ lens_row l c.args.j c.loop-r.r = c.min-row.ensures ∙ ap (λ z. min z (l.at.height - 1)) c.saturating_sub-in-loop-r.ensures in
    let column : c.min-column.result ≡ lens_column l c.args.i c.args.q = c.min-column.ensures ∙ ap (λ z. min z (l.at.width - 1)) c.saturating_sub.ensures in
    let at : c.min-row.result * l.at.width + c.min-column.result ≡ lens_spot l c.args.i c.args.j k =
    ap (λ z. z * l.at.width + c.min-column.result) row ∙ ap (λ z. lens_row l c.args.j c.loop-r.r * l.at.width + z) column ∙ sym (spot_at l c.args.i c.args.j c.args.q c.loop-r.r c.requires.inside) in
    let x : p k ≡ c.unwrap-pixel.result = or_black_is o _ o.black _ (ap (λ z. o.decode (get_or c.args.codes.now z 0)) (sym at) ∙ sym c.decode.ensures ∙ c.unwrap-pixel.ensures) in
    c.more-sum.ensures
    ∙ ap (λ s. o.more s c.unwrap-pixel.result (to_z w32 (of_z w32 c.weight-weight.result))) c.loop-r.invariant
    ∙ ap (λ z. o.more (downward o p w l.columns c.args.q c.args.sum c.loop-r.r) z (to_z w32 (of_z w32 c.weight-weight.result))) (sym x)
    ∙ ap (o.more (downward o p w l.columns c.args.q c.args.sum c.loop-r.r) (p k)) e
    ∙ sym (downward_more o p w l.columns c.args.q c.args.sum c.loop-r.r)
