use Rattle.std.proofs.Common.{sym}
use Rattle.store.proofs.Unread.{served}
use Rattle.store.proofs.sectors.SectorsStore.read.Goals as goal

pub returns : goal.returns
returns c =
    let s = served c.args.self.now.bytes.now c.args.self.now.unread.now c.args.place c.args.buffer.now c.read.result c.read.new.buffer
    (sym c.in_ok-check.ensures) c.read.ensures.answer c.read.ensures.buffer in
    record { answer = s.answered; buffer = s.left }
