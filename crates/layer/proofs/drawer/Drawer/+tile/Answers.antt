use Rattle.std.proofs.Common.{ap, ◌∙◌}
use Rattle.picture.specs.Steps.{formula}
use Rattle.layer.specs.Seen.{seen}
use Rattle.layer.specs.Placing.{kept_follows, kept_layers}
use Rattle.layer.proofs.Tiling.{needless_kept, needless_part, shows_halves}
use Rattle.layer.proofs.drawer.Drawer.+tile.Goals as goal

pub returns-in_err-tile-clause-drawn : goal.returns-in_err-tile-clause-drawn
returns-in_err-tile-clause-drawn g t c n =
    let l = c.args.self.now in
    let x = c.tile.ensures.drawn (needless_part (formula l.over.step l.over.size.width l.over.size.height) c.args.piece.part c.halves.result.0 c.halves.ensures.smaller.near n) in
    let w = c.in_err-tile.was in
    let e : ⊥ = cc in absurd e

pub returns-in_err-tile-clause-quiet : goal.returns-in_err-tile-clause-quiet
returns-in_err-tile-clause-quiet g t c n =
    let l = c.args.self.now in
    c.tile.ensures.quiet (needless_part (formula l.over.step l.over.size.width l.over.size.height) c.args.piece.part c.halves.result.0 c.halves.ensures.smaller.near n)

pub returns-in-Some : goal.returns-in-Some
returns-in-Some g t c =
    let o = g.P.Pixel.Kind.ops in
    let model = g.P.Picture.model in
    let count = g.P.Picture.count in
    let l = c.args.self.now in
    let p = c.args.piece.part in
    let s = c.halves.ensures.smaller in
    let near = c.halves.result.0 in
    let far = c.halves.result.1 in
    let φ = formula l.over.step l.over.size.width l.over.size.height in
    let k = c.tile.ensures.kept in
    record {
      laid = λ z.
          shows_halves o _ _ c.in-Some.cut c.args.piece.whole p near far _ _ _ (ap (λ m. m.shown) (kept_layers o model count (seen l) (seen c.tile.new.self) k)) c.args.piece.lies c.halves.ensures.cut
          (c.tile.ensures.laid c.in_ok-tile.was) (c.tile-in-Some.ensures.laid z);
      kept = kept_follows o model count (seen l) (seen c.tile.new.self) (seen c.tile-in-Some.new.self) k c.tile-in-Some.ensures.kept;
      drawn = λ n. c.tile-in-Some.ensures.drawn (needless_kept o model count l c.tile.new.self far k (needless_part φ p far s.far n));
      quiet = λ n. c.tile-in-Some.ensures.quiet (needless_kept o model count l c.tile.new.self far k (needless_part φ p far s.far n)) ∙ c.tile.ensures.quiet (needless_part φ p near s.near n);
    }

pub returns-in-Err-clause-kept : goal.returns-in-Err-clause-kept
returns-in-Err-clause-kept g t c = kept_follows g.P.Pixel.Kind.ops g.P.Picture.model g.P.Picture.count (seen c.args.self.now) (seen c.block.new.self) (seen c.exact.new.self) c.block.ensures.kept c.exact.ensures.kept
