use Rattle.store.proofs.Unread.{Clear}
use Rattle.store.proofs.sectors.SectorsStore.check.Given as goal

abbrev pub invariant-loop-sector : goal.invariant-loop-sector
invariant-loop-sector l = Clear l.self.unread.now l.place l.sector-counter
