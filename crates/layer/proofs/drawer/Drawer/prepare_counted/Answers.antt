use Rattle.std.proofs.Common.{◌≡◌, ◌+◌, ◌≤◌, length, sym, ap, ◌∙◌, arith, rules}
use Rattle.picture.specs.Prepare.{area, nth, up}
use Rattle.picture.specs.Places.{first_fault}
use Rattle.picture.proofs.Serving.{answer_is, within_across, within_down}
use Rattle.layer.specs.Seen.{layered_of, seen}
use Rattle.layer.specs.Placing.{kept_follows, kept_layers, stood_high, stood_wide}
use Rattle.std.proofs.lemmas.List.{length-take-le}
use Rattle.std.specs.Prelude.{is_ok}
use Rattle.layer.proofs.Serving.{holed_not, never_falls, ok_of, same_rest, served_pieces, served_rows}
use Rattle.layer.proofs.Tiling.{needless_stood}
use Rattle.layer.proofs.drawer.Drawer.prepare_counted.Goals as goal

pub returns-then-is_ok : goal.returns-then-is_ok
returns-then-is_ok g c =
    let o = g.P.Pixel.Kind.ops in
    let model = g.P.Picture.model in
    let count = g.P.Picture.count in
    let l = c.args.self.now in
    let b = (model l.below).shown in
    let i = (layered_of o model l).shown in
    let r = c.args.rect in
    let t = c.args.buffer.now in
    let k = c.tile.ensures.kept in
    let x : r.left + r.width ≤ i.width = omega (arith, within_across c.shown-size.result.width c.shown-size.result.height r c.in_ok-n.ensures.1, c.shown-size.ensures.width, stood_wide b l.over.step l.over.size l.stands) in
    let y : r.top + r.height ≤ i.height = omega (arith, within_down c.shown-size.result.width c.shown-size.result.height r c.in_ok-n.ensures.1, c.shown-size.ensures.height, stood_high b l.over.step l.over.size l.stands) in
    let q : c.in_ok-n.n ≤ length t = omega (arith, c.in_ok-n.ensures.0, c.in_ok-n.ensures.2) in
    let n : length c.tile.new.buffer ≡ c.in_ok-n.n = c.tile.auto.buffer ∙ length-take-le c.in_ok-n.n t q in
    let s = served_pieces o i r _ t c.tile.new.buffer c.in_ok-n.n x y c.in_ok-n.ensures.0 q n (c.tile.ensures.laid (ok_of _ (sym c.is_ok.ensures.value ∙ c.if-is_ok.true))) in
    let up_one : c.saturating_add-self.result ≡ up l.count = search rules in
    record {
      prepared = record { answers = s.0; fills = s.1; counts = sym k.count ∙ up_one; keeps = sym (kept_layers o model count _ (seen c.tile.new.self) k) };
      asked = record {
        times = k.times;
        counts = k.asked;
        grows = never_falls k.times _ _ k.asked;
        outside = λ e. let n : ⊥ = cc in absurd n;
        short = λ e. let n : ⊥ = cc in absurd n;
        needless = λ n. c.tile.ensures.quiet (needless_stood b l.over.step l.over.size r l.stands n);
      };
    }

pub returns : goal.returns
returns g c =
    let o = g.P.Pixel.Kind.ops in
    let model = g.P.Picture.model in
    let count = g.P.Picture.count in
    let l = c.args.self.now in
    let b = (model l.below).shown in
    let i = (layered_of o model l).shown in
    let r = c.args.rect in
    let t = c.args.buffer.now in
    let k = c.tile.ensures.kept in
    let x : r.left + r.width ≤ i.width = omega (arith, within_across c.shown-size.result.width c.shown-size.result.height r c.in_ok-n.ensures.1, c.shown-size.ensures.width, stood_wide b l.over.step l.over.size l.stands) in
    let y : r.top + r.height ≤ i.height = omega (arith, within_down c.shown-size.result.width c.shown-size.result.height r c.in_ok-n.ensures.1, c.shown-size.ensures.height, stood_high b l.over.step l.over.size l.stands) in
    let z : area r ≤ length t = c.in_ok-n.ensures.2 in
    let q : c.in_ok-n.n ≤ length t = omega (arith, c.in_ok-n.ensures.0, c.in_ok-n.ensures.2) in
    let n : length c.tile.new.buffer ≡ c.in_ok-n.n = c.tile.auto.buffer ∙ length-take-le c.in_ok-n.n t q in
    let d = same_rest t c.tile.new.buffer c.in_ok-n.n (area r) c.in_ok-n.ensures.0 q n in
    let v = ap (λ m. m.shown) (kept_layers o model count _ (seen c.tile.new.self) k) in
    let s = served_rows o i r _ _ t _ c.serve.new.buffer x y z d.0 v d.1 c.serve.ensures.answer c.serve.ensures.buffer in
    let j = kept_follows o model count _ (seen c.tile.new.self) (seen c.serve.new.rows) k c.serve.ensures.same in
    let up_one : c.saturating_add-self.result ≡ up l.count = search rules in
    let told = s.0 ∙ answer_is i r (length t) x y z in
    record {
      prepared = record { answers = s.0; fills = s.1; counts = sym j.count ∙ up_one; keeps = sym (kept_layers o model count _ (seen c.serve.new.rows) j) };
      asked = record {
        times = j.times;
        counts = j.asked;
        grows = never_falls j.times _ _ j.asked;
        outside = λ e. absurd (holed_not (first_fault (nth i r) (area r)) 10 (omega arith) (sym told ∙ e));
        short = λ e. absurd (holed_not (first_fault (nth i r) (area r)) 11 (omega arith) (sym told ∙ e));
        needless = λ n. let w = ap is_ok (sym (c.tile.ensures.drawn (needless_stood b l.over.step l.over.size r l.stands n))) ∙ sym c.is_ok.ensures.value ∙ c.if-is_ok.false in let e : ⊥ = cc in absurd e;
      };
    }
