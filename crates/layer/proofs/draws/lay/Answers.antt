use Rattle.std.proofs.Common.{◌≡◌, ◌+◌, ◌-◌, length, ap, ◌∙◌, arith, rules}
use Rattle.layer.proofs.Laying.{laid_above, laid_row}
use Rattle.layer.proofs.draws.lay.Goals as goal

pub loop-j-preserved : goal.loop-j-preserved
loop-j-preserved g c =
    let p = c.args.piece.part in
    let k = c.args.piece.lies in
    let j = c.loop-j.j in
    let d = g.D.Draw.drawn c.args.draw.now c.args.codes.now in
    let m : length c.lay_row.new.row ≡ c.row-from.result + p.width - c.row-from.result = search rules in
    let n : length c.lay_row.new.row ≡ p.width = omega arith in
    laid_above _ _ _ _ _ 1 _ _ _ _ (record { left = k.left; top = k.top; right = k.right; bottom = omega (arith, k.bottom) }) c.loop-j.invariant
    (laid_row c.args.piece.whole p j _ _ _ _ _ k c.loop-j-test.true (c.loop-j.auto.buffer ∙ c.requires.room) c.row-from.ensures n (omega arith)
    (λ i l.
    let ei : i ≡ p.left + i - p.left = omega arith in
    let ej : j ≡ p.top + j - p.top = omega arith in
    c.lay_row.ensures i (omega (arith, c.lay_row.auto.row)) ∙ ap (λ a. d a j) ei ∙ ap (d (p.left + i - p.left)) ej))
