use Rattle.std.proofs.Common.{◌≡◌, ℕ, ◌*◌, Ok, sym, ap, ◌∙◌}
use Rattle.store.specs.Cells.{capped}
use Rattle.picture.specs.declared.size.Size.{Size}
use Rattle.source.specs.declared.header.Header.{Header}
use Rattle.source.specs.Files.{raster_image}
use Rattle.survey.specs.Surveys.{surveyed}
use Rattle.inspection.proofs.Tails.{drawn_same}
use Rattle.inspection.proofs.looking.judge.Goals as goal

abbrev header : Size → ℕ → Header
header s n = record { width = s.width; height = s.height; maxval = s.maxval; length = n }

pub returns-in-Ok-clause-found : goal.returns-in-Ok-clause-found
returns-in-Ok-clause-found g c =
    let o = g.K.Kind.ops in
    let f = c.in-Ok.file in
    let v = c.in-Ok.ensures.value in
    let r = f.raster in
    let d = c.tell.result in
    let q : d.size ≡ r.size = c.tell.ensures.size in
    let at = capped (g.S.Store.at c.args.store) in (
      v.4 ∙ ap (λ z. Ok (header z r.start)) (sym q) ∙ ap (λ z. Ok (header d.size z)) (sym c.tell.ensures.header),
      λ s e z.
          c.tell.ensures.survey
          ∙ ap (λ t. surveyed o (raster_image o (capped (g.S.Store.at t)) r) (r.size.width * r.size.height)) v.0
          ∙ ap (λ i. surveyed o i (r.size.width * r.size.height)) (drawn_same o at r s (cc (v.4, e)) (v.2 ∙ sym z))
          ∙ ap (λ (t : Size). surveyed o (raster_image o at s) (t.width * t.height)) (sym q),
    )
