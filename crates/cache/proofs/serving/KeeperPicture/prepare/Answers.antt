use Rattle.std.proofs.Common.{◌∙◌, ap, arith}
use Rattle.picture.proofs.Serving.{within_across, within_down}
use Rattle.cache.proofs.Preparing.{served_so, passed_so, counting}
use Rattle.cache.proofs.serving.KeeperPicture.prepare.Goals as goal

pub returns-in-Ok : goal.returns-in-Ok
returns-in-Ok g c =
    let w = c.in-Ok.ensures.went in
    served_so c.args.self.now c.args.rect c.args.buffer.now (omega (arith, within_across c.size-size.result.width c.size-size.result.height c.args.rect c.in_ok-admitted.ensures.1, c.size-size.ensures.width)) (omega (arith, within_down c.size-size.result.width c.size-size.result.height c.args.rect c.in_ok-admitted.ensures.1, c.size-size.ensures.height)) c.in_ok-admitted.ensures.2
    c.walk.new.buffer c.walk.auto.buffer c.walk.ensures.rest _ (w.counted ∙ c.saturating_add-self.ensures) w.shape w.keeps w.machine c.in-Ok.ensures.served

pub returns-in-Err : goal.returns-in-Err
returns-in-Err g c =
    let w = c.in-Err.ensures.went in
    passed_so c.args.self.now c.args.rect c.args.buffer.now (omega (arith, within_across c.size-size.result.width c.size-size.result.height c.args.rect c.in_ok-admitted.ensures.1, c.size-size.ensures.width)) (omega (arith, within_down c.size-size.result.width c.size-size.result.height c.args.rect c.in_ok-admitted.ensures.1, c.size-size.ensures.height)) c.in_ok-admitted.ensures.2
    c.walk.new.buffer c.walk.auto.buffer c.walk.ensures.rest _ c.walk.new.self (w.counted ∙ c.saturating_add-self.ensures) w.shape w.keeps w.machine
    (ap (counting c.walk.new.self.tiles) c.saturating_add.ensures) c.prepare.result c.prepare.new.buffer c.prepare.ensures
