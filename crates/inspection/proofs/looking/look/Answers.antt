use Rattle.std.proofs.Common.{◌≡◌, ◌-◌, ◌*◌, ◌/◌, ◌%◌, ◌≤◌, min, refl, ap, ◌∙◌, arith}
use Rattle.picture.specs.declared.fault.Cause.TheVariants.{Missing}
use Rattle.store.specs.Cells.{capped}
use Rattle.source.specs.declared.raster.Raster.{Raster}
use Rattle.source.specs.Files.{fault_at, pixel_bytes, raster_image}
use Rattle.survey.specs.Surveys.{surveyed, up_to}
use Rattle.inspection.specs.Reports.{lost}
use Rattle.inspection.proofs.Tails.{reached_few, tail_lost}
use Rattle.inspection.proofs.looking.look.Goals as goal

pub returns : goal.returns
returns g c =
    let o = g.K.Kind.ops in
    let at = capped (g.S.Store.at c.args.file.now.store) in
    let r = c.args.file.now.raster in
    let s = c.raster-raster.result in
    let i = raster_image o at r in
    let places = c.min-places.result in
    let total = r.size.width * r.size.height in
    let e : s ≡ r = c.raster-raster.ensures in
    let p : places ≡ min c.pixels_before.result total = c.min-places.ensures ∙ ap (λ (z : Raster). min c.pixels_before.result (z.size.width * z.size.height)) e in
    let u : up_to i places ≡ places = omega arith in
    let few : c.pixels_before.result ≤ c.args.end =
    omega (arith, c.pixels_before.ensures.value, reached_few r.start c.args.end (pixel_bytes o r.size.maxval)) in
    record {
      value =
          c.lose.ensures
          ∙ ap (λ (z : Raster). lost c.survey-found.result (z.size.width * z.size.height - places) (fault_at z.source (places % z.size.width) (places / z.size.width) Missing)) e
          ∙ ap (λ z. lost z (total - places) (fault_at r.source (places % r.size.width) (places / r.size.width) Missing)) (c.survey-found.ensures.value ∙ ap (surveyed o i) u)
          ∙ tail_lost o at r c.pixels_before.result places total (c.pixels_before.ensures.law c.requires) refl p;
      quick = omega (arith, c.survey-found.ensures.quick, u, p, few);
    }
