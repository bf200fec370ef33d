use Rattle.std.proofs.Common.{◌≡◌, ◌-◌, ◌*◌, ◌≤◌, ap, ◌∙◌, arith}
use Rattle.std.proofs.lemmas.Grind.{div_ceil_times}
use Rattle.std.specs.Int.{div_ceil}
use Rattle.store.specs.Cells.{capped}
use Rattle.source.specs.Files.{pixel_bytes}
use Rattle.source.proofs.Losing.{lost-behind, reached_up}
use Rattle.source.proofs.Widths.{same_width}
use Rattle.source.proofs.file.FileSource.pixels_before.Goals as goal

pub returns : goal.returns
returns g c =
    let o = g.K.Kind.ops in
    let r = c.args.self.now.raster in
    let n = pixel_bytes o r.size.maxval in
    let same : c.pixel_bytes-step.result ≡ pixel_bytes o r.size.maxval = c.pixel_bytes-step.ensures.value ∙ same_width o r.size.maxval in
    let some : 1 ≤ pixel_bytes o r.size.maxval = omega (arith, same, c.pixel_bytes-step.ensures.some) in
    let up : c.div_ceil.result ≡ div_ceil (c.args.end - r.start) (pixel_bytes o r.size.maxval) =
    c.div_ceil.ensures ∙ ap (λ m. div_ceil m c.pixel_bytes-step.result) c.saturating_sub.ensures ∙ ap (div_ceil (c.args.end - r.start)) same in
    let long = (div_ceil_times (c.args.end - r.start) n some).0 in
    let reach : c.args.end - r.start ≤ c.div_ceil.result * pixel_bytes o r.size.maxval = omega (arith, long, ap (λ m. m * n) up) in
    record {
      value = up ∙ reached_up r.start c.args.end n some;
      law = lost-behind o (capped (g.S.Store.at c.args.self.now.store)) r c.args.end c.div_ceil.result some reach;
    }
