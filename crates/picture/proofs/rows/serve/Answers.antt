use Rattle.std.proofs.Common.{◌≡◌, true, length, sym, refl, ap, ◌∙◌, arith}
use Rattle.picture.specs.Places.{first_fault}
use Rattle.picture.specs.Prepare.{area, holed, inside, nth}
use Rattle.picture.proofs.Faults.{none_of_ok}
use Rattle.picture.proofs.Serving.{inside_is, answer_in, filled_in, whole}
use Rattle.picture.proofs.rows.serve.Goals as goal

pub returns-in-Ok : goal.returns-in-Ok
returns-in-Ok g c =
    let r = c.args.rect in
    let o = g.R.Pixel.Kind.ops in
    let i = g.R.Rows.view c.args.rows.now in
    let w : inside i r ≡ true = inside_is i r c.args.wide c.args.high c.requires.wide c.requires.high c.in_ok-n.ensures.1 in
    let clean = none_of_ok (first_fault (nth i r) (area r)) c.in-Ok.ensures.answer in
    record {
      answer = sym (answer_in i r (length c.args.buffer.now) w c.in_ok-n.ensures.2 ∙ ap holed clean);
      buffer = whole o (nth i r) (area r) c.args.buffer.now c.fill.new.buffer (omega (arith, c.fill.auto.buffer, c.in_ok-n.ensures.2)) (c.in-Ok.ensures.shown refl) c.in-Ok.ensures.rest
          ∙ sym (filled_in o i r c.args.buffer.now w c.in_ok-n.ensures.2);
      same = c.fill.ensures.same;
    }
