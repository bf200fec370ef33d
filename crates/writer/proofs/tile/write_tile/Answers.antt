use Rattle.std.proofs.Common.{◌≡◌, None, Err, Option, Result, ap, ◌∙◌}
use Rattle.std.specs.Option.{ok_or}
use Rattle.std.proofs.lemmas.Result.{err_from_is_err_and}
use Rattle.picture.specs.declared.fault.Refusal.{Refusal}
use Rattle.picture.specs.declared.fault.Refusal.TheVariants.{NoTile}
use Rattle.picture.specs.declared.rect.Rect.{Rect}
use Rattle.writer.proofs.Tiling as tiling
use Rattle.writer.proofs.tile.write_tile.Goals as goal

no_tile : (e : Refusal) (v : Option Rect) → Err e ≡ ok_or v NoTile → v ≡ None → e ≡ NoTile
no_tile e v q n = let h : ◌≡◌ {A = Result Rect Refusal} (Err e) (Err NoTile) = q ∙ ap (λ o. ok_or o NoTile) n in cc

pub returns-in_err-part : goal.returns-in_err-part
returns-in_err-part g c =
    let t = err_from_is_err_and c.from_residual.result c.from_residual.ensures.1 in
    tiling.none g.P.Pixel.Kind.ops g.P.Picture.model g.P.Picture.count c.args.picture.now c.args.column c.args.row c.args.side c.args.work.now c.args.out.now
    c.size-size.result c.size-size.ensures.width c.size-size.ensures.height c.size-size.ensures.maxval c.visible.result c.visible.ensures
    c.from_residual.result c.in_err-part.ensures.ok_part (t.1 ∙ ap Err (t.2 ∙ no_tile _ _ c.in_err-part.ensures.value c.in_err-part.ensures.ok_part))

pub returns-then-work-area : goal.returns-then-work-area
returns-then-work-area g c =
    tiling.short g.P.Pixel.Kind.ops g.P.Picture.model g.P.Picture.count c.args.picture.now c.args.column c.args.row c.args.side c.args.work.now c.args.out.now
    c.size-size.result c.size-size.ensures.width c.size-size.ensures.height c.size-size.ensures.maxval c.visible.result c.visible.ensures
    c.in_ok-part.part c.in_ok-part.ensures.ok_part c.area.result c.header_bytes.result c.pixel_bytes.result c.area.ensures c.header_bytes.ensures.value c.pixel_bytes.ensures.value
    c.then-work-area.either

pub returns-in_err-prepare : goal.returns-in_err-prepare
returns-in_err-prepare g c =
    let a = c.from_residual-in_err-prepare in
    let t = err_from_is_err_and a.result a.ensures.1 in
    tiling.told g.P.Pixel.Kind.ops g.P.Picture.model g.P.Picture.count c.args.picture.now c.args.column c.args.row c.args.side c.args.work.now c.args.out.now
    c.size-size.result c.size-size.ensures.width c.size-size.ensures.height c.size-size.ensures.maxval c.visible.result c.visible.ensures
    c.in_ok-part.part c.in_ok-part.ensures.ok_part c.area.result c.header_bytes.result c.pixel_bytes.result c.area.ensures c.header_bytes.ensures.value c.pixel_bytes.ensures.value
    c.if-work-area.false c.if-out-bytes.false c.prepare.new.self c.prepare.new.buffer c.in_err-prepare.field-0.0 a.result c.in_err-prepare.ensures (t.1 ∙ ap Err t.2)

pub put-requires-clause-known : goal.put-requires-clause-known
put-requires-clause-known g c =
    tiling.known g.P.Pixel.Kind.ops g.P.Picture.model g.P.Picture.count c.args.picture.now c.args.column c.args.row c.args.side c.args.work.now c.args.out.now
    c.size-size.result c.size-size.ensures.width c.size-size.ensures.height c.size-size.ensures.maxval c.visible.result c.visible.ensures
    c.in_ok-part.part c.in_ok-part.ensures.ok_part c.area.result c.header_bytes.result c.pixel_bytes.result c.area.ensures c.header_bytes.ensures.value c.pixel_bytes.ensures.value
    c.if-work-area.false c.if-out-bytes.false c.prepare.new.self c.prepare.new.buffer c.in_ok-prepare.ensures g.met.P.Pixel.Kind.decodes (g.met.P.Picture.bounded c.args.picture.now)

pub returns : goal.returns
returns g c =
    tiling.put_down g.P.Pixel.Kind.ops g.P.Picture.model g.P.Picture.count c.args.picture.now c.args.column c.args.row c.args.side c.args.work.now c.args.out.now
    c.size-size.result c.size-size.ensures.width c.size-size.ensures.height c.size-size.ensures.maxval c.visible.result c.visible.ensures
    c.in_ok-part.part c.in_ok-part.ensures.ok_part c.area.result c.header_bytes.result c.pixel_bytes.result c.area.ensures c.header_bytes.ensures.value c.pixel_bytes.ensures.value
    c.if-work-area.false c.if-out-bytes.false c.prepare.new.self c.prepare.new.buffer c.in_ok-prepare.ensures g.met.P.Pixel.Kind.decodes
    g.met.P.Pixel.Kind.deep c.padding.result c.padding.ensures.shown c.prepare.auto.buffer c.mark.result c.mark.ensures c.put_header-head.new.out c.put.new.out c.put_header-head.result
    c.put_header-head.ensures.out c.put_header-head.ensures.end c.put.ensures.out
