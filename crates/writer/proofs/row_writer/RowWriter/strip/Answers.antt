use Rattle.std.proofs.Common.{◌≡◌, ℕ, ◌+◌, ◌*◌, ◌<◌, ◌⊎◌, length, take, Err, sym, refl, ap, ◌∙◌, inl, inr, add-zero, arith}
use Rattle.picture.specs.declared.fault.Refusal.TheVariants.{BufferTooShort, OtherWriter, NoRows}
use Rattle.writer.specs.declared.row_writer.RowWriter.{RowWriter}
use Rattle.writer.specs.File.{pixel_width}
use Rattle.writer.specs.Calls.{rows_of, places_of, end_amount}
use Rattle.std.proofs.lemmas.Result.{err_from_is_err_and}
use Rattle.std.proofs.lemmas.List.{length-take-le}
use Rattle.writer.proofs.Ends as ends
use Rattle.writer.proofs.Nexts as nexts
use Rattle.writer.proofs.Strips as strips
use Rattle.writer.proofs.row_writer.RowWriter.strip.Goals as goal

pub returns-then-not-serves : goal.returns-then-not-serves
returns-then-not-serves g c =
    let o = g.P.Pixel.Kind.ops in
    let i = (g.P.Picture.model c.args.picture.now).shown in
    let w = c.args.self.now in
    let e = nexts.end_other o i w c.args.height (length c.args.work.now) (length c.args.out.now) (sym c.if-not-serves.ensures) in
    record {
      part = ends.early_wrote o g.P.Picture.model g.P.Picture.count _ _ _ c.args.picture.now c.args.work.now c.args.out.now _ OtherWriter _ 13 refl e refl;
      next = sym (add-zero w.next) ∙ ap (λ x. w.next + end_amount x (rows_of w c.args.height)) (sym e);
      size = refl;
      mark = refl;
    }

pub returns-then-rows-eq0 : goal.returns-then-rows-eq0
returns-then-rows-eq0 g c =
    let o = g.P.Pixel.Kind.ops in
    let i = (g.P.Picture.model c.args.picture.now).shown in
    let w = c.args.self.now in
    let e = nexts.end_none o i w c.args.height (length c.args.work.now) (length c.args.out.now) (sym c.if-not-serves.ensures) (sym c.min-rows.ensures ∙ c.if-rows-eq0.true) in
    record {
      part = ends.early_wrote o g.P.Picture.model g.P.Picture.count _ _ _ c.args.picture.now c.args.work.now c.args.out.now _ NoRows _ 15 refl e refl;
      next = sym (add-zero w.next) ∙ ap (λ x. w.next + end_amount x (rows_of w c.args.height)) (sym e);
      size = refl;
      mark = refl;
    }

-- the code's numbers are those of the strip
places_are : (w : RowWriter) (s r : ℕ) → r ≡ rows_of w s → w.size.width * r ≡ places_of w s
places_are w s r e = ap (λ k. w.size.width * k) e

bytes_are : (w : RowWriter) (s r b n : ℕ) → r ≡ rows_of w s → b ≡ n → w.size.width * r * b ≡ places_of w s * n
bytes_are w s r b n e f = ap (λ k. w.size.width * k * b) e ∙ ap (λ k. places_of w s * k) f

pub returns-then-work-places : goal.returns-then-work-places
returns-then-work-places g c =
    let o = g.P.Pixel.Kind.ops in
    let i = (g.P.Picture.model c.args.picture.now).shown in
    let w = c.args.self.now in
    let s = c.args.height in
    let pl = places_are w s c.min-rows.result c.min-rows.ensures in
    let by = bytes_are w s c.min-rows.result c.pixel_bytes.result (pixel_width o w.size.maxval) c.min-rows.ensures c.pixel_bytes.ensures.value in
    let short : (length c.args.work.now < places_of w s) ⊎ (length c.args.out.now < places_of w s * pixel_width o w.size.maxval) =
    elim c.then-work-places.either [ inl p ↦ inl (omega arith) | inr p ↦ inr (omega (arith, p.1)) ] in
    let e = nexts.end_short o i w s (length c.args.work.now) (length c.args.out.now) (sym c.if-not-serves.ensures) (λ z. c.if-rows-eq0.false (c.min-rows.ensures ∙ z)) short in
    record {
      part = ends.early_wrote o g.P.Picture.model g.P.Picture.count _ _ _ c.args.picture.now c.args.work.now c.args.out.now _ BufferTooShort _ 11 refl e refl;
      next = sym (add-zero w.next) ∙ ap (λ x. w.next + end_amount x (rows_of w s)) (sym e);
      size = refl;
      mark = refl;
    }

pub returns-in_err-prepare : goal.returns-in_err-prepare
returns-in_err-prepare g c =
    let t = err_from_is_err_and c.from_residual.result c.from_residual.ensures.1 in
    strips.told g.P.Pixel.Kind.ops g.P.Picture.model g.P.Picture.count c.args.picture.now c.args.height c.args.self.now c.args.work.now c.args.out.now c.min-rows.result c.pixel_bytes.result
    (sym c.if-not-serves.ensures) c.min-rows.ensures c.pixel_bytes.ensures.value c.if-rows-eq0.false c.if-work-places.false c.if-out-bytes.false
    c.prepare.new.self c.prepare.new.buffer _ c.in_err-prepare.field-0.0 c.from_residual.result c.in_err-prepare.ensures (t.1 ∙ ap Err t.2) refl refl refl refl

pub put_codes-requires-clause-known : goal.put_codes-requires-clause-known
put_codes-requires-clause-known g c = λ k h.
    let n = c.args.self.now.size.width * c.min-rows.result in
    let long : length (take n c.prepare.new.buffer) ≡ n = length-take-le n c.prepare.new.buffer (omega (arith, c.if-work-places.false, c.prepare.auto.buffer)) in
    strips.known g.P.Pixel.Kind.ops g.P.Picture.model g.P.Picture.count c.args.picture.now c.args.height c.args.self.now c.args.work.now c.args.out.now c.min-rows.result c.pixel_bytes.result
    (sym c.if-not-serves.ensures) c.min-rows.ensures c.pixel_bytes.ensures.value c.if-rows-eq0.false c.if-work-places.false c.if-out-bytes.false
    c.prepare.new.self c.prepare.new.buffer _ c.in_ok-prepare.ensures refl refl refl refl g.met.P.Pixel.Kind.decodes (g.met.P.Picture.bounded c.args.picture.now) k (omega arith)

pub returns : goal.returns
returns g c =
    strips.put_down g.P.Pixel.Kind.ops g.P.Picture.model g.P.Picture.count c.args.picture.now c.args.height c.args.self.now c.args.work.now c.args.out.now c.min-rows.result c.pixel_bytes.result
    (sym c.if-not-serves.ensures) c.min-rows.ensures c.pixel_bytes.ensures.value c.if-rows-eq0.false c.if-work-places.false c.if-out-bytes.false
    c.prepare.new.self c.prepare.new.buffer _ c.in_ok-prepare.ensures refl refl refl refl g.met.P.Pixel.Kind.decodes g.met.P.Pixel.Kind.deep _ c.put_codes.new.out
    refl refl refl c.put_codes.ensures.out
