use Rattle.std.proofs.Common.{◌≡◌, ℕ, ◌<◌, ◌+◌, ◌-◌, ◌*◌, get_or, pos, Some, sym, ap, ◌∙◌, arith}
use Rattle.picture.specs.Compose.{taken}
use Rattle.picture.specs.Prepare.{area, coded}
use Rattle.picture.specs.Steps.{black, formula, kernel, white}
use Rattle.layer.specs.Aims.{ones, walked, weights_of}
use Rattle.layer.specs.Layers.{located}
use Rattle.layer.proofs.Asking.{single_hole}
use Rattle.layer.proofs.Mixing.{carried_place}
use Rattle.layer.proofs.Parting.{can_carry, carried_needs, coded_carried, mixed_at, mixed_needs, shows_drawn, aims_as, ground_needless, masked, told_as}
use Rattle.layer.specs.Placing.{stood}
use Rattle.layer.proofs.drawer.Drawer.block.Goals as goal
use Rattle.layer.proofs.drawer.Drawer.block.Goals.{in-Black, in-White}

pub draw_part-requires-clause-can : goal.draw_part-requires-clause-can
draw_part-requires-clause-can g c codes h s i j li lj =
    let l = c.args.self.now in
    let p = c.args.piece.part in
    let a = aims_as _ _ (formula l.over.step l.over.size.width l.over.size.height) _ _ p c.in-Copy.is c.in-Some.ensures in
    let k = can_carry g.P.Pixel.Kind.ops (g.P.Picture.model l.below).shown c.in-Copy.carry codes i j _ (a.1 i j li lj) h in
    (a.3, omega (arith, p.across), omega (arith, p.down), k.0, k.1, k.2)

pub returns-clause-laid : goal.returns-clause-laid
returns-clause-laid g c z =
    let o = g.P.Pixel.Kind.ops in
    let l = c.args.self.now in
    let b = (g.P.Picture.model l.below).shown in
    let p = c.args.piece.part in
    let φ = formula l.over.step l.over.size.width l.over.size.height in
    let plain : (i j : ℕ) → i < p.width → j < p.height → coded o (taken o b.maxval b.at (φ (p.left + i) (p.top + j))) ≡ Some (o.code c.match-aim-2.pixel) =
    elim c.match-aim-2.branch [
      | in-Black w ↦ λ i j li lj.
          ap (λ f. coded o (taken o b.maxval b.at f)) (aims_as _ _ φ _ _ p w.in-Black.is c.in-Some.ensures i j li lj)
          ∙ ap (λ k. Some (o.code k)) (sym (w.pixel-is ∙ w.black-pixel.ensures))
      | in-White w ↦ λ i j li lj.
          ap (λ f. coded o (taken o b.maxval b.at f)) (aims_as _ _ φ _ _ p w.in-White.is c.in-Some.ensures i j li lj)
          ∙ ap (λ k. Some (o.code k)) (sym (w.pixel-is ∙ w.white-pixel.ensures ∙ ap o.white l.stands.maxval))
    ] in
    shows_drawn o b l.over.step l.over.size c.args.piece.whole p _ _ _ l.stands (λ i j k li lj q. plain i j li lj ∙ ap Some (sym (q ∙ c.code.ensures))) c.lay.ensures

pub returns-clause-once : goal.returns-clause-once
returns-clause-once g c w h n =
    let l = c.args.self.now in
    let p = c.args.piece.part in
    let φ = formula l.over.step l.over.size.width l.over.size.height in
    elim c.match-aim-2.branch [
      | in-Black b ↦ absurd (n (ground_needless φ p black tt (aims_as _ _ φ _ _ p b.in-Black.is c.in-Some.ensures)))
      | in-White b ↦ absurd (n (ground_needless φ p white tt (aims_as _ _ φ _ _ p b.in-White.is c.in-Some.ensures)))
    ]

pub returns-in-Copy-clause-laid : goal.returns-in-Copy-clause-laid
returns-in-Copy-clause-laid g c z =
    let o = g.P.Pixel.Kind.ops in
    let l = c.args.self.now in
    let b = (g.P.Picture.model l.below).shown in
    let p = c.args.piece.part in
    let a = aims_as _ _ (formula l.over.step l.over.size.width l.over.size.height) _ _ p c.in-Copy.is c.in-Some.ensures in
    let d = c.draw_part.ensures.laid z in
    shows_drawn o b l.over.step l.over.size c.args.piece.whole p _ _ _ l.stands
    (λ i j k li lj q.
    let ei : i ≡ p.left + i - p.left = omega arith in
    let ej : j ≡ p.top + j - p.top = omega arith in
    coded_carried o b c.in-Copy.carry d.0 i j _ d.1 (a.1 i j li lj)
    ∙ ap Some (ap (λ x. get_or d.0 (walked c.in-Copy.carry x j) 0) ei ∙ ap (λ y. get_or d.0 (walked c.in-Copy.carry (p.left + i - p.left) y) 0) ej ∙ sym q)) d.2

pub returns-in-Copy-clause-told : goal.returns-in-Copy-clause-told
returns-in-Copy-clause-told g c w h =
    let o = g.P.Pixel.Kind.ops in
    let l = c.args.self.now in
    let b = (g.P.Picture.model l.below).shown in
    let p = c.args.piece.part in
    let a = aims_as _ _ (formula l.over.step l.over.size.width l.over.size.height) _ _ p c.in-Copy.is c.in-Some.ensures in
    let one : area c.in-Copy.carry.at ≡ 1 = a.2 w h in
    let q = carried_place o b c.in-Copy.carry 0 0 _ (a.1 0 0 p.wide p.high) in
    told_as _ _ _
    (λ f e.
    single_hole o b c.in-Copy.carry.at f _ one q.1 e ∙ ap (located o) (sym q.0)
    ∙ ap (λ z. located o (taken o b.maxval b.at z)) (stood b l.over.step l.over.size _ _ p.left p.top l.stands (omega arith) (omega arith)))
    (c.draw_part.ensures.told (omega arith))

pub returns-in-Copy-clause-drawn : goal.returns-in-Copy-clause-drawn
returns-in-Copy-clause-drawn g c n =
    let l = c.args.self.now in
    let p = c.args.piece.part in
    absurd (carried_needs (formula l.over.step l.over.size.width l.over.size.height) p c.in-Copy.carry (aims_as _ _ (formula l.over.step l.over.size.width l.over.size.height) _ _ p c.in-Copy.is c.in-Some.ensures).1 n)

pub returns-in-Copy-clause-quiet : goal.returns-in-Copy-clause-quiet
returns-in-Copy-clause-quiet g c n =
    let l = c.args.self.now in
    let p = c.args.piece.part in
    absurd (carried_needs (formula l.over.step l.over.size.width l.over.size.height) p c.in-Copy.carry (aims_as _ _ (formula l.over.step l.over.size.width l.over.size.height) _ _ p c.in-Copy.is c.in-Some.ensures).1 n)

pub returns-in-Copy-clause-once : goal.returns-in-Copy-clause-once
returns-in-Copy-clause-once g c w h n =
    let l = c.args.self.now in
    let p = c.args.piece.part in
    let a = aims_as _ _ (formula l.over.step l.over.size.width l.over.size.height) _ _ p c.in-Copy.is c.in-Some.ensures in
    let one : area c.in-Copy.carry.at ≡ 1 = a.2 w h in
    c.draw_part.ensures.once (omega arith)

pub returns-in-Mean-clause-laid : goal.returns-in-Mean-clause-laid
returns-in-Mean-clause-laid g c z =
    let o = g.P.Pixel.Kind.ops in
    let l = c.args.self.now in
    let b = (g.P.Picture.model l.below).shown in
    let p = c.args.piece.part in
    let n = c.in-Mean.lens in
    let a = aims_as _ _ (formula l.over.step l.over.size.width l.over.size.height) _ _ p c.in-Mean.is c.in-Some.ensures in
    shows_drawn o b l.over.step l.over.size c.args.piece.whole p _ _ _ l.stands (λ i j k li lj q. q _ (mixed_at n ones (n.columns * n.rows) (pos 0) i j p _ (a.1 i j li lj))) (c.blend_part.ensures.laid z)

pub returns-in-Mean-clause-told : goal.returns-in-Mean-clause-told
returns-in-Mean-clause-told g c w h =
    let o = g.P.Pixel.Kind.ops in
    let l = c.args.self.now in
    let b = (g.P.Picture.model l.below).shown in
    let p = c.args.piece.part in
    let a = aims_as _ _ (formula l.over.step l.over.size.width l.over.size.height) _ _ p c.in-Mean.is c.in-Some.ensures in
    told_as _ _ _ (λ f e. e ∙ ap (λ z. located o (taken o b.maxval b.at z)) (stood b l.over.step l.over.size _ _ p.left p.top l.stands (omega arith) (omega arith)))
    (c.blend_part.ensures.told w h _ (a.1 0 0 p.wide p.high))

pub returns-in-Mean-clause-drawn : goal.returns-in-Mean-clause-drawn
returns-in-Mean-clause-drawn g c n =
    let l = c.args.self.now in
    let p = c.args.piece.part in
    absurd (mixed_needs (formula l.over.step l.over.size.width l.over.size.height) p c.in-Mean.lens ones (c.in-Mean.lens.columns * c.in-Mean.lens.rows) (pos 0) (aims_as _ _ (formula l.over.step l.over.size.width l.over.size.height) _ _ p c.in-Mean.is c.in-Some.ensures).1 n)

pub returns-in-Mean-clause-quiet : goal.returns-in-Mean-clause-quiet
returns-in-Mean-clause-quiet g c n =
    let l = c.args.self.now in
    let p = c.args.piece.part in
    absurd (mixed_needs (formula l.over.step l.over.size.width l.over.size.height) p c.in-Mean.lens ones (c.in-Mean.lens.columns * c.in-Mean.lens.rows) (pos 0) (aims_as _ _ (formula l.over.step l.over.size.width l.over.size.height) _ _ p c.in-Mean.is c.in-Some.ensures).1 n)

pub returns-in-Mean-clause-once : goal.returns-in-Mean-clause-once
returns-in-Mean-clause-once g c w h n = c.blend_part.ensures.once w h

pub returns-in-Masked-clause-laid : goal.returns-in-Masked-clause-laid
returns-in-Masked-clause-laid g c z =
    let o = g.P.Pixel.Kind.ops in
    let l = c.args.self.now in
    let b = (g.P.Picture.model l.below).shown in
    let p = c.args.piece.part in
    let n = c.in-Masked.lens in
    let s = c.of_mask.result in
    let x = masked (formula l.over.step l.over.size.width l.over.size.height) p n c.in-Masked.mask s.weights s.scale s.offset c.of_mask.ensures.weights c.of_mask.ensures.scale c.of_mask.ensures.offset (aims_as _ _ (formula l.over.step l.over.size.width l.over.size.height) _ _ p c.in-Masked.is c.in-Some.ensures).1 in
    shows_drawn o b l.over.step l.over.size c.args.piece.whole p _ _ _ l.stands
    (λ i j k li lj q. q _ (mixed_at n (λ k. get_or s.weights k (pos 0)) s.scale s.offset i j p _ (x i j li lj))) (c.blend_part-in-Masked.ensures.laid z)

pub returns-in-Masked-clause-told : goal.returns-in-Masked-clause-told
returns-in-Masked-clause-told g c w h =
    let o = g.P.Pixel.Kind.ops in
    let l = c.args.self.now in
    let b = (g.P.Picture.model l.below).shown in
    let p = c.args.piece.part in
    let n = c.in-Masked.lens in
    let s = c.of_mask.result in
    let x = masked (formula l.over.step l.over.size.width l.over.size.height) p n c.in-Masked.mask s.weights s.scale s.offset c.of_mask.ensures.weights c.of_mask.ensures.scale c.of_mask.ensures.offset (aims_as _ _ (formula l.over.step l.over.size.width l.over.size.height) _ _ p c.in-Masked.is c.in-Some.ensures).1 in
    told_as _ _ _ (λ f e. e ∙ ap (λ z. located o (taken o b.maxval b.at z)) (stood b l.over.step l.over.size _ _ p.left p.top l.stands (omega arith) (omega arith)))
    (c.blend_part-in-Masked.ensures.told w h _ (x 0 0 p.wide p.high))

pub returns-in-Masked-clause-drawn : goal.returns-in-Masked-clause-drawn
returns-in-Masked-clause-drawn g c n =
    let l = c.args.self.now in
    let p = c.args.piece.part in
    absurd (mixed_needs (formula l.over.step l.over.size.width l.over.size.height) p c.in-Masked.lens (weights_of c.in-Masked.mask) (kernel c.in-Masked.mask).scale (kernel c.in-Masked.mask).offset (aims_as _ _ (formula l.over.step l.over.size.width l.over.size.height) _ _ p c.in-Masked.is c.in-Some.ensures).1 n)

pub returns-in-Masked-clause-quiet : goal.returns-in-Masked-clause-quiet
returns-in-Masked-clause-quiet g c n =
    let l = c.args.self.now in
    let p = c.args.piece.part in
    absurd (mixed_needs (formula l.over.step l.over.size.width l.over.size.height) p c.in-Masked.lens (weights_of c.in-Masked.mask) (kernel c.in-Masked.mask).scale (kernel c.in-Masked.mask).offset (aims_as _ _ (formula l.over.step l.over.size.width l.over.size.height) _ _ p c.in-Masked.is c.in-Some.ensures).1 n)

pub returns-in-Masked-clause-once : goal.returns-in-Masked-clause-once
returns-in-Masked-clause-once g c w h n = c.blend_part-in-Masked.ensures.once w h
