use Rattle.std.proofs.Common.{◌-◌, ◌*◌, ◌≤◌, length, Some, sym, ap, ◌∙◌, arith}
use Rattle.picture.specs.Compose.{summed}
use Rattle.picture.proofs.Faults.{fault_of_err}
use Rattle.layer.specs.Aims.{lens_pixel}
use Rattle.layer.specs.Layers.{located}
use Rattle.layer.proofs.Laying.{laid_as}
use Rattle.layer.proofs.Mixing.{mixed_hole}
use Rattle.layer.proofs.Parting.{can_read, coded-mixed, lone_area, told_as}
use Rattle.layer.proofs.drawer.Drawer.blend_part.Goals as goal

pub draw_part-requires-clause-can : goal.draw_part-requires-clause-can
draw_part-requires-clause-can g c codes h s i j li lj =
    let p = c.args.piece.part in
    can_read g.P.Pixel.Kind.ops (g.P.Picture.model c.args.self.now.below).shown g.met.P.Pixel.Kind.decodes c.args.lens codes i j c.requires.fair.few (omega (arith, p.across)) (omega (arith, p.down)) h s

pub returns-clause-laid : goal.returns-clause-laid
returns-clause-laid g c z =
    let o = g.P.Pixel.Kind.ops in
    let l = c.args.self.now in
    let p = c.args.piece.part in
    let n = c.args.lens in
    let k = c.args.filter in
    let w = g.W.Weights.weighs k.weights in
    let d = c.draw_part.ensures.laid z in
    laid_as c.args.piece.whole p.left p.top p.width p.height _ _ _ _
    (λ u v x a q φ m.
    coded-mixed o (g.P.Picture.model l.below).shown g.met.P.Pixel.Kind.decodes n w k.scale k.offset d.0 (u - p.left) (v - p.top) φ d.1 m
    ∙ ap (λ y. Some (o.code (o.finish (summed o (lens_pixel o d.0 n (u - p.left) (v - p.top)) w (n.columns * n.rows)) k.scale k.offset y))) (sym l.stands.maxval)
    ∙ ap Some (sym q)) d.2

pub returns-clause-told : goal.returns-clause-told
returns-clause-told g c pw ph φ m =
    let o = g.P.Pixel.Kind.ops in
    let l = c.args.self.now in
    let n = c.args.lens in
    let k = c.args.filter in
    let lone = c.requires.fair.lone pw ph in
    let room : n.at.width * n.at.height ≤ length l.scratch = omega (arith, lone_area n lone) in
    told_as _ _ _
    (λ f e. ap (located o) (sym (mixed_hole o (g.P.Picture.model l.below).shown n (g.W.Weights.weighs k.weights) k.scale k.offset f φ m lone.few.some lone.wide lone.high (fault_of_err _ f e))))
    (c.draw_part.ensures.told room)

pub returns-clause-once : goal.returns-clause-once
returns-clause-once g c pw ph =
    let l = c.args.self.now in
    let n = c.args.lens in
    let room : n.at.width * n.at.height ≤ length l.scratch = omega (arith, lone_area n (c.requires.fair.lone pw ph)) in
    c.draw_part.ensures.once room
