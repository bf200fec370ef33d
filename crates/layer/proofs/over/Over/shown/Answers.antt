use Rattle.std.proofs.Common.{◌≡◌, arith, rules}
use Rattle.picture.specs.Steps.{height_of, width_of}
use Rattle.layer.specs.Bounding.{sides}
use Rattle.layer.proofs.over.Over.shown.Goals as goal

pub invariant_of-result : goal.invariant_of-result
invariant_of-result c =
    let t = c.args.self in
    let z = t.size in
    let s = sides t.step z.width z.height (record { wide = z.wide; high = z.high; across = z.across; down = z.down }) t.within t.fits in
    let w : c.match-self.width.0 ≡ width_of t.step z.width z.height = search rules in
    let h : c.match-self.width.1 ≡ height_of t.step z.width z.height = search rules in
    record { wide = omega (arith, s.wide); high = omega (arith, s.high); bright = z.bright; across = omega (arith, s.across); down = omega (arith, s.down); fits = z.fits }
