use Rattle.std.proofs.Common.{◌≡◌, ℕ, length, refl, ap, ◌∙◌}
use Rattle.writer.specs.File.{header}
use Rattle.writer.specs.Calls.{Opened, over}
use Rattle.writer.proofs.Logs.{joined-file}
use Rattle.writer.proofs.rows.begin.Goals as goal

-- the header by numbers that equal the picture's
same : (k k' w w' h h' m m' : ℕ) → k ≡ k' → w ≡ w' → h ≡ h' → m ≡ m' → header k w h m ≡ header k' w' h' m'
same k k' w w' h h' m m' a b c d = cc

pub returns : goal.returns
returns g c =
    let o = g.P.Pixel.Kind.ops in
    let i = (g.P.Picture.model c.args.picture.now).shown in
    let z = c.size-size.result in
    let e = same c.mark-mark.result o.mark z.width i.width z.height i.height z.maxval i.maxval c.mark-mark.ensures c.size-size.ensures.width c.size-size.ensures.height c.size-size.ensures.maxval in
    let b : Opened o i c.args.out.now c.put_header-bytes.result _ c.put_header-bytes.new.out = record {
      amounts = c.put_header-bytes.ensures.end ∙ ap length e;
      writes = c.put_header-bytes.ensures.out ∙ ap (λ b. over b c.args.out.now) e;
      width = c.size-size.ensures.width;
      height = c.size-size.ensures.height;
      maxval = c.size-size.ensures.maxval;
      mark = c.mark-mark.ensures;
      next = refl;
    } in
    record {
      begun = b;
      whole = joined-file o g.P.Picture.model g.P.Picture.count g.P.Picture.bare g.met.P.Picture.composed c.args.picture.now c.args.out.now c.put_header-bytes.result _ c.put_header-bytes.new.out b;
    }
