use Rattle.std.proofs.Common.{◌≡◌, ◌+◌, ◌-◌, length, ap, ◌∙◌, arith, rules}
use Rattle.picture.specs.Prepare.{coded}
use Rattle.layer.specs.Seen.{seen}
use Rattle.layer.specs.Placing.{kept_follows, kept_layers}
use Rattle.layer.proofs.Laying.{laid_above, laid_row}
use Rattle.layer.proofs.drawer.Drawer.exact.Goals as goal

pub loop-j-preserved : goal.loop-j-preserved
loop-j-preserved g c =
    let o = g.P.Pixel.Kind.ops in
    let v = kept_layers o g.P.Picture.model g.P.Picture.count (seen c.args.self.now) (seen c.loop-j.self) c.loop-j.invariant.1 in
    let p = c.args.piece.part in
    let k = c.args.piece.lies in
    let m : length c.row.new.out ≡ c.row-from.result + p.width - c.row-from.result = search rules in
    let n : length c.row.new.out ≡ p.width = omega arith in (
      laid_above _ _ _ _ _ 1 _ _ _ _ (record { left = k.left; top = k.top; right = k.right; bottom = omega (arith, k.bottom) }) c.loop-j.invariant.0
          (laid_row c.args.piece.whole p c.loop-j.j _ _ _ _ _ k c.loop-j-test.true (c.loop-j.auto.buffer ∙ c.requires.room) c.row-from.ensures n (omega arith)
          (λ i l. ap (λ z. coded o (z.shown.at (p.left + i) (p.top + c.loop-j.j))) v ∙ c.row.ensures.shown c.in_ok-row.was i (omega (arith, c.row.auto.out)))),
      kept_follows o g.P.Picture.model g.P.Picture.count (seen c.args.self.now) (seen c.loop-j.self) (seen c.row.new.self) c.loop-j.invariant.1 c.row.ensures.same,
    )

pub returns-in_err-row-clause-kept : goal.returns-in_err-row-clause-kept
returns-in_err-row-clause-kept g c = kept_follows g.P.Pixel.Kind.ops g.P.Picture.model g.P.Picture.count (seen c.args.self.now) (seen c.loop-j.self) (seen c.row.new.self) c.loop-j.invariant.1 c.row.ensures.same
