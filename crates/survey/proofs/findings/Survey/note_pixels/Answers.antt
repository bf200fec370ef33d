use Rattle.std.proofs.Common.{get_or, sym, ◌∙◌, arith}
use Rattle.survey.proofs.Onward.{seen_pixel, coded_pixel, onward_pixel}
use Rattle.survey.proofs.findings.Survey.note_pixels.Goals as goal

pub loop-code-preserved : goal.loop-code-preserved
loop-code-preserved g c =
    let o = g.K.Kind.ops in
    let k = c.loop-code.code-index in
    let p = c.unwrap.result in
    record {
      counts = omega (arith, seen_pixel o c.loop-code.self c.note_pixel.new.self p c.note_pixel.ensures);
      so_far = λ f h.
          let e = coded_pixel o g.met.K.Kind.decodes (f k) (get_or c.args.codes.now k 0) p (h k c.loop-code-test.true) (sym c.decode.ensures ∙ c.unwrap.ensures) in
          onward_pixel o c.args.self.now c.note_pixel.new.self c.loop-code.self f k p c.note_pixel.ensures (c.loop-code.invariant.so_far f h) e;
    }
