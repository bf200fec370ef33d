use Rattle.std.proofs.Common.{◌≡◌, ℕ, ◌+◌, ◌*◌, ◌<◌, min, ◌&&◌, eqb, ◌⊎◌, length, Ok, Err, sym, refl, ap, ◌∙◌, inl, inr, arith, length-append}
use Rattle.std.proofs.lemmas.Bool.{and_from, eq-eqb}
use Rattle.pixel.specs.Ops.{Ops}
use Rattle.picture.specs.declared.fault.Refusal.TheVariants.{NoRows, BufferTooShort}
use Rattle.picture.specs.declared.size.Size.{Size}
use Rattle.picture.specs.Places.{first_fault}
use Rattle.picture.specs.Images.{Image}
use Rattle.writer.specs.File.{place_of, pixel_width, header, header_of, raster}
use Rattle.std.proofs.lemmas.Result.{err_from_is_err_and}
use Rattle.writer.specs.Calls.{outcome_of}
use Rattle.writer.specs.Whole.{file_width}
use Rattle.writer.proofs.Wholes as wholes
use Rattle.writer.proofs.whole.write_file.Goals as goal

-- the code's numbers are those of the file
module _ {K S : Type 0} (o : Ops K S) (i : Image K) (z : Size) (ew : z.width ≡ i.width) (eh : z.height ≡ i.height) (em : z.maxval ≡ i.maxval) where
  bytes_are : (a b : ℕ) → ((mark : ℕ) → a ≡ length (header mark z.width z.height z.maxval)) → b ≡ pixel_width o z.maxval → a + z.width * z.height * b ≡ file_width o i
  bytes_are a b h f =
      ap (λ n. n + z.width * z.height * b) (h o.mark) ∙ ap (λ n. length (header o.mark z.width z.height z.maxval) + z.width * z.height * n) f
      ∙ ap (λ n. length (header o.mark n z.height z.maxval) + n * z.height * pixel_width o z.maxval) ew
      ∙ ap (λ n. length (header o.mark i.width n z.maxval) + i.width * n * pixel_width o z.maxval) eh
      ∙ ap (λ n. length (header o.mark i.width i.height n) + i.width * i.height * pixel_width o n) em

  codes_are : (s r : ℕ) → r ≡ min s z.height → z.width * r ≡ i.width * min s i.height
  codes_are s r e = ap (λ n. z.width * n) (e ∙ ap (min s) eh) ∙ ap (λ n. n * min s i.height) ew

pub returns-then-height-eq0 : goal.returns-then-height-eq0
returns-then-height-eq0 g c =
    wholes.early_filed g.P.Pixel.Kind.ops g.P.Picture.model g.P.Picture.count c.args.picture.now c.args.height c.args.work.now c.args.out.now 15 NoRows
    (wholes.end_zero g.P.Pixel.Kind.ops (g.P.Picture.model c.args.picture.now).shown c.args.height (length c.args.work.now) (length c.args.out.now) c.if-height-eq0.true) refl

pub returns-then-work-wide : goal.returns-then-work-wide
returns-then-work-wide g c =
    let o = g.P.Pixel.Kind.ops in
    let i = (g.P.Picture.model c.args.picture.now).shown in
    let z = c.size-size.result in
    let s = c.args.height in
    let by = bytes_are o i z c.size-size.ensures.width c.size-size.ensures.height c.size-size.ensures.maxval c.header_bytes.result c.pixel_bytes.result c.header_bytes.ensures.value c.pixel_bytes.ensures.value in
    let co = codes_are o i z c.size-size.ensures.width c.size-size.ensures.height c.size-size.ensures.maxval s c.min.result c.min.ensures in
    let short : (length c.args.work.now < i.width * min s i.height) ⊎ (length c.args.out.now < file_width o i) =
    elim c.then-work-wide.either [ inl l ↦ inl (omega (arith, l)) | inr l ↦ inr (omega (arith, l.1)) ] in
    wholes.early_filed o g.P.Picture.model g.P.Picture.count c.args.picture.now s c.args.work.now c.args.out.now 11 BufferTooShort
    (wholes.end_short o i s (length c.args.work.now) (length c.args.out.now) c.if-height-eq0.false short) refl

pub put_strips-rows-requires : goal.put_strips-rows-requires
put_strips-rows-requires g c =
    let o = g.P.Pixel.Kind.ops in
    let i = (g.P.Picture.model c.args.picture.now).shown in
    let z = c.size-size.result in
    let s = c.args.height in
    let by = bytes_are o i z c.size-size.ensures.width c.size-size.ensures.height c.size-size.ensures.maxval c.header_bytes.result c.pixel_bytes.result c.header_bytes.ensures.value c.pixel_bytes.ensures.value in
    let co = codes_are o i z c.size-size.ensures.width c.size-size.ensures.height c.size-size.ensures.maxval s c.min.result c.min.ensures in
    let x = c.in_ok-head.ensures.begun in
    let w = c.in_ok-head.writer in
    record {
      fits = and_from (eqb w.size.width i.width && eqb w.size.height i.height) (eqb w.size.maxval i.maxval && eqb w.mark o.mark)
          (and_from (eqb w.size.width i.width) (eqb w.size.height i.height) (eq-eqb _ _ x.width) (eq-eqb _ _ x.height))
          (and_from (eqb w.size.maxval i.maxval) (eqb w.mark o.mark) (eq-eqb _ _ x.maxval) (eq-eqb _ _ x.mark));
      begun = x.next;
      some = let h = c.if-height-eq0.false in omega arith;
      codes = omega (arith, c.if-work-wide.false);
      room = omega (arith, c.if-out-bytes.false, x.amounts, c.begin.auto.out);
    }

pub returns : goal.returns
returns g c =
    let o = g.P.Pixel.Kind.ops in
    let i = (g.P.Picture.model c.args.picture.now).shown in
    let z = c.size-size.result in
    let s = c.args.height in
    let by = bytes_are o i z c.size-size.ensures.width c.size-size.ensures.height c.size-size.ensures.maxval c.header_bytes.result c.pixel_bytes.result c.header_bytes.ensures.value c.pixel_bytes.ensures.value in
    let co = codes_are o i z c.size-size.ensures.width c.size-size.ensures.height c.size-size.ensures.maxval s c.min.result c.min.ensures in
    let x = c.in_ok-head.ensures.begun in
    let r = c.in_ok-rows.ensures in
    let long = wholes.raster_long o g.met.P.Pixel.Kind.deep i r.answers in
    wholes.filed o g.P.Picture.model g.P.Picture.count c.args.picture.now s c.args.work.now c.args.out.now (Ok (c.in_ok-head.head + c.in_ok-rows.field-0)) c.put_strips-rows.new.picture c.put_strips-rows.new.work
    _ (first_fault (place_of i) (i.width * i.height))
    (wholes.end_room o i s (length c.args.work.now) (length c.args.out.now) c.if-height-eq0.false (omega (arith, c.if-work-wide.false)) (omega (arith, c.if-out-bytes.false)))
    r.answers
    (λ d. (
      wholes.file-written o i c.args.out.now c.begin.new.out c.put_strips-rows.new.out c.in_ok-head.head x.writes x.amounts (r.writes refl) (omega (arith, c.if-out-bytes.false, x.amounts)),
      ap (λ n. n + c.in_ok-rows.field-0) x.amounts ∙ ap (λ n. length (header_of o i) + n) (r.amounts refl) ∙ sym (length-append (header_of o i) (raster o i)),
    ))
    r.keeps

pub returns-in_err-rows : goal.returns-in_err-rows
returns-in_err-rows g c =
    let o = g.P.Pixel.Kind.ops in
    let i = (g.P.Picture.model c.args.picture.now).shown in
    let z = c.size-size.result in
    let s = c.args.height in
    let by = bytes_are o i z c.size-size.ensures.width c.size-size.ensures.height c.size-size.ensures.maxval c.header_bytes.result c.pixel_bytes.result c.header_bytes.ensures.value c.pixel_bytes.ensures.value in
    let co = codes_are o i z c.size-size.ensures.width c.size-size.ensures.height c.size-size.ensures.maxval s c.min.result c.min.ensures in
    let a = c.from_residual-in_err-rows in
    let t = err_from_is_err_and a.result a.ensures.1 in
    let y : a.result ≡ Err _ = t.1 ∙ ap Err t.2 in
    let r = c.in_err-rows.ensures in
    wholes.filed o g.P.Picture.model g.P.Picture.count c.args.picture.now s c.args.work.now c.args.out.now a.result c.put_strips-rows.new.picture c.put_strips-rows.new.work
    _ (first_fault (place_of i) (i.width * i.height))
    (wholes.end_room o i s (length c.args.work.now) (length c.args.out.now) c.if-height-eq0.false (omega (arith, c.if-work-wide.false)) (omega (arith, c.if-out-bytes.false)))
    (ap outcome_of y ∙ r.answers)
    (λ d. absurd (wholes.not_done c.in_err-rows.field-0.0 (sym (ap outcome_of y) ∙ d)))
    r.keeps
