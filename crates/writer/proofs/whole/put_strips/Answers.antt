use Rattle.std.proofs.Common.{◌≡◌, ℕ, ◌+◌, ◌-◌, ◌*◌, ◌<◌, ◌≤◌, List, length, take, drop, None, Ok, Err, sym, refl, ap, ◌∙◌, mul-zero, zero-mul, arith, length-drop, length-take, rules}
use Rattle.picture.specs.Places.{first_fault}
use Rattle.picture.specs.Images.{Model}
use Rattle.writer.specs.File.{place_of, pixel_width, reading}
use Rattle.writer.specs.declared.row_writer.RowWriter.{RowWriter}
use Rattle.writer.specs.Calls.{over, ending, outcome_of, end_outcome, rows_of}
use Rattle.std.proofs.lemmas.Result.{err_from_is_err_and}
use borrow.Rule.Slice.PartMut.{put_mid}
use Rattle.writer.proofs.whole.put_strips.Given as given
use Rattle.writer.proofs.Logs.{reading-none}
use Rattle.writer.proofs.Wholes as wholes
use Rattle.writer.proofs.whole.put_strips.Goals as goal

behind_long : (out : List ℕ) (end : ℕ) → length (take (length out - end) (drop end out)) ≡ length out - end
behind_long out end = simp (length-take, length-drop) (omega arith)

pub loop-writer-init : goal.loop-writer-init
loop-writer-init g c =
    let o = g.P.Pixel.Kind.ops in
    let i = (g.P.Picture.model c.args.picture.now).shown in
    let w = c.args.writer.now in
    let n : i.width * w.next ≡ 0 = ap (λ k. i.width * k) c.requires.begun ∙ mul-zero i.width in (
      refl,
      record {
        fit = c.requires.fits;
        room = c.requires.room;
        long = refl;
        ends = sym (ap (λ k. k * pixel_width o i.maxval) n ∙ zero-mul (pixel_width o i.maxval));
        bytes = sym (ap (λ k. over (reading o i 0 k) c.args.out.now) n ∙ ap (λ k. over k c.args.out.now) (reading-none o i 0));
        clean = ap (first_fault (place_of i)) n;
      },
    )

pub slice_bounds-strip-count : goal.slice_bounds-strip-count
slice_bounds-strip-count g c = wholes.end_in g.P.Pixel.Kind.ops (g.P.Picture.model c.args.picture.now).shown c.loop-writer.writer c.loop-writer.end c.args.out.now c.loop-writer.out c.loop-writer.invariant.1

pub slice_bounds-strip-start : goal.slice_bounds-strip-start
slice_bounds-strip-start g c =
    let h = wholes.end_in g.P.Pixel.Kind.ops (g.P.Picture.model c.args.picture.now).shown c.loop-writer.writer c.loop-writer.end c.args.out.now c.loop-writer.out c.loop-writer.invariant.1 in
    search rules

-- a strip that was answered
went : (g : given.Over) (c : goal.In_ok-end g)
    → (c.strip.new.self.next ≡ c.loop-writer.writer.next + rows_of c.loop-writer.writer c.args.height)
    × wholes.Far g.P.Pixel.Kind.ops (g.P.Picture.model c.args.picture.now).shown c.strip.new.self (c.loop-writer.end + c.in_ok-end.field-0) c.args.out.now
    (put_mid c.loop-writer.end (length c.loop-writer.out - c.loop-writer.end) c.loop-writer.out c.strip.new.out)
went g c =
    let o = g.P.Pixel.Kind.ops in
    let i = (g.P.Picture.model c.args.picture.now).shown in
    let v = c.loop-writer.writer in
    let end = c.loop-writer.end in
    let out = c.loop-writer.out in
    let part = take (length out - end) (drop end out) in
    let x = c.in_ok-end.ensures in
    let e : (g.P.Picture.model c.loop-writer.picture).shown ≡ i = ap (λ (m : Model g.row.P-Pixel.Denot). m.shown) c.loop-writer.invariant.0 in
    wholes.turn_wrote o i v end c.args.out.now out c.loop-writer.invariant.1 c.args.height (length c.loop-writer.work) part c.loop-writer-test.true c.requires.some
    (let h = c.loop-writer.auto.work in let k = c.requires.codes in omega arith) (behind_long out end) g.met.P.Pixel.Kind.deep c.in_ok-end.field-0 c.strip.new.self c.strip.new.out
    (wholes.turned o g.P.Picture.model g.P.Picture.count i c.loop-writer.picture c.args.height v c.loop-writer.work part (Ok c.in_ok-end.field-0) c.strip.new.picture c.strip.new.self
    c.strip.new.work c.strip.new.out e x) refl x.size x.mark

pub overflow_add-end : goal.overflow_add-end
overflow_add-end g c =
    let f = (went g c).1 in
    let h : c.loop-writer.end + c.in_ok-end.field-0 ≤ length c.args.out.now =
    let l = f.long in
    omega (arith, wholes.end_in g.P.Pixel.Kind.ops (g.P.Picture.model c.args.picture.now).shown c.strip.new.self (c.loop-writer.end + c.in_ok-end.field-0) c.args.out.now _ f) in
    search rules

pub loop-writer-preserved : goal.loop-writer-preserved
loop-writer-preserved g c = (c.in_ok-end.ensures.part.keeps ∙ c.loop-writer.invariant.0, (went g c).1)

-- fewer rows are left
fewer : (v v' : RowWriter) (s : ℕ) → v.next < v.size.height → 1 ≤ s → v'.size ≡ v.size → v'.next ≡ v.next + rows_of v s → v'.size.height - v'.next < v.size.height - v.next
fewer v v' s l m e n = let h : v'.size.height ≡ v.size.height = ap (λ z. z.height) e in omega arith

pub loop-writer-smaller : goal.loop-writer-smaller
loop-writer-smaller g c = fewer c.loop-writer.writer c.strip.new.self c.args.height c.loop-writer-test.true c.requires.some c.in_ok-end.ensures.size (went g c).0

pub returns-in_err-end : goal.returns-in_err-end
returns-in_err-end g c =
    let o = g.P.Pixel.Kind.ops in
    let i = (g.P.Picture.model c.args.picture.now).shown in
    let v = c.loop-writer.writer in
    let end = c.loop-writer.end in
    let out = c.loop-writer.out in
    let part = take (length out - end) (drop end out) in
    let x = c.in_err-end.ensures in
    let t = err_from_is_err_and c.from_residual.result c.from_residual.ensures.1 in
    let y : c.from_residual.result ≡ Err _ = t.1 ∙ ap Err t.2 in
    let e : (g.P.Picture.model c.loop-writer.picture).shown ≡ i = ap (λ (m : Model g.row.P-Pixel.Denot). m.shown) c.loop-writer.invariant.0 in
    record {
      answers = ap outcome_of y ∙ wholes.turn_holed o i v end c.args.out.now out c.loop-writer.invariant.1 c.args.height (length c.loop-writer.work) part c.loop-writer-test.true c.requires.some
          (let h = c.loop-writer.auto.work in let k = c.requires.codes in omega arith) (behind_long out end) c.in_err-end.field-0.0 c.strip.new.self c.strip.new.out
          (wholes.turned o g.P.Picture.model g.P.Picture.count i c.loop-writer.picture c.args.height v c.loop-writer.work part (Err c.in_err-end.field-0.0) c.strip.new.picture
          c.strip.new.self c.strip.new.work c.strip.new.out e x);
      amounts = λ z. absurd (wholes.not_done c.in_err-end.field-0.0 (sym (ap outcome_of y) ∙ z));
      writes = λ z. absurd (wholes.not_done c.in_err-end.field-0.0 (sym (ap outcome_of y) ∙ z));
      keeps = x.part.keeps ∙ c.loop-writer.invariant.0;
    }

pub returns : goal.returns
returns g c =
    let o = g.P.Pixel.Kind.ops in
    let i = (g.P.Picture.model c.args.picture.now).shown in
    let v = c.loop-writer.writer in
    let z = v.within in
    let w = wholes.all_written o i v c.loop-writer.end c.args.out.now c.loop-writer.out c.loop-writer.invariant.1 g.met.P.Pixel.Kind.deep (let h = c.loop-writer-test.false in omega arith) in
    record {
      answers = ap (λ z. end_outcome (ending None z)) (sym w.0);
      amounts = λ z. w.2;
      writes = λ z. w.1;
      keeps = c.loop-writer.invariant.0;
    }
