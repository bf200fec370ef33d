use Rattle.std.proofs.Common.{sym, subst, arith}
use Rattle.picture.specs.Images.{Model}
use Rattle.cache.specs.Slots.{Ready}
use Rattle.cache.proofs.serving.KeeperPicture.forget.Goals as goal

pub invariant_of-self : goal.invariant_of-self
invariant_of-self g c =
    let was = c.args.self.now in
    let r = subst (λ (i : Model g.row.P-Pixel.Denot). Ready g.P.Pixel.Kind.ops i.shown was.shape was.tiles) (sym c.forget.ensures.keeps) was.ready in
    record {
      ready = record { few = omega arith; long = r.long; room = r.room; own = r.own; apart = r.apart; good = λ i lt. absurd (omega arith) };
      once = tt;
    }
