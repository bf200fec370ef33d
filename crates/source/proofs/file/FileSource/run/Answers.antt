use Rattle.std.proofs.Common.{◌≡◌, length, take, sym, refl, ap, ◌∙◌, inl, inr, arith}
use Rattle.std.proofs.lemmas.List.{length-take}
use Rattle.store.specs.Cells.{capped}
use Rattle.picture.specs.Prepare.{lined, or_fault}
use Rattle.picture.proofs.Faults.{shown_clean}
use Rattle.source.specs.Rasters.{Lawful, ends-hole, ends-none, shown-append}
use Rattle.source.specs.Showing.{shown_of}
use Rattle.source.proofs.Widths.{same_width}
use Rattle.source.proofs.file.FileSource.run.Goals as goal
use Rattle.source.proofs.file.FileSource.run.Goals.{then-taken-pixels, else-taken-pixels}

pub returns-in-None : goal.returns-in-None
returns-in-None g c =
    let r = c.args.self.now.raster in
    let o = g.K.Kind.ops in
    let laws : Lawful g.K.Kind.ops = record { coded = g.met.K.Kind.coded; sampled = g.met.K.Kind.sampled } in
    let p : length (take c.read_pixels-pixels.result.pixels c.args.out.now) ≡ c.read_pixels-pixels.result.pixels = simp length-take (omega (arith, c.read_pixels-pixels.ensures.within)) in
    let e = ends-none o (capped (g.S.Store.at c.args.self.now.store)) r c.args.left c.args.row
    c.pixel_bytes-step.result (length c.args.out.now) c.read_pixels-pixels.result.pixels _ c.decode-taken.result c.read_pixels-pixels.result.lack
    c.read_pixels-pixels.new.block c.decode-taken.new.out laws (c.pixel_bytes-step.ensures.value ∙ same_width o r.size.maxval) p c.read_pixels-pixels.ensures c.decode-taken.ensures
    _ (elim c.if-taken-pixels.branch [ then-taken-pixels w ↦ inl (w.if-taken-pixels.true, w.hole-is) | else-taken-pixels w ↦ inr (w.if-taken-pixels.false, w.hole-is) ]) c.in-None.is in
    let f = lined (shown_of o g.S.Store.at c.args.self.now) c.args.left c.args.row in
    record {
      answer = ap or_fault (sym (shown_clean o f (length c.args.out.now) c.decode-taken.new.out e.1));
      shown = λ z. shown-append o f (length c.args.out.now) c.decode-taken.new.out _ (omega (arith, e.0, c.decode-taken.ensures.within, c.decode-taken.auto.out)) e.1;
      same = (refl, refl, refl);
    }

pub returns-in-Some-clause-answer : goal.returns-in-Some-clause-answer
returns-in-Some-clause-answer g c =
    let r = c.args.self.now.raster in
    let o = g.K.Kind.ops in
    let laws : Lawful g.K.Kind.ops = record { coded = g.met.K.Kind.coded; sampled = g.met.K.Kind.sampled } in
    let p : length (take c.read_pixels-pixels.result.pixels c.args.out.now) ≡ c.read_pixels-pixels.result.pixels = simp length-take (omega (arith, c.read_pixels-pixels.ensures.within)) in
    ends-hole o (capped (g.S.Store.at c.args.self.now.store)) r c.args.left c.args.row
    c.pixel_bytes-step.result (length c.args.out.now) c.read_pixels-pixels.result.pixels _ c.decode-taken.result c.read_pixels-pixels.result.lack
    c.read_pixels-pixels.new.block c.decode-taken.new.out laws (c.pixel_bytes-step.ensures.value ∙ same_width o r.size.maxval) p c.read_pixels-pixels.ensures c.decode-taken.ensures
    _ c.in-Some.cause (elim c.if-taken-pixels.branch [ then-taken-pixels w ↦ inl (w.if-taken-pixels.true, w.hole-is) | else-taken-pixels w ↦ inr (w.if-taken-pixels.false, w.hole-is) ]) c.in-Some.is
