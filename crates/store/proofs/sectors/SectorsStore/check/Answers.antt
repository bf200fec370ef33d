use Rattle.std.proofs.Common.{ℕ, ◌/◌, ◌<◌, ◌≤◌, ◌≡◌, false, sym, ◌∙◌, arith}
use Rattle.store.specs.Stores.{listed}
use Rattle.store.proofs.Unread.{clear_more, first_unread, found, none_unread}
use Rattle.store.proofs.sectors.SectorsStore.check.Goals as goal
use Rattle.store.proofs.sectors.SectorsStore.check.Goals.{then-place-stop+else-loop-sector-test, else-place-stop}

pub returns-then-contains : goal.returns-then-contains
returns-then-contains c =
    let bad = c.args.self.now.unread.now in
    sym (first_unread c.args.self.now.bytes.now bad c.args.place c.args.count c.loop-sector.sector-counter c.max.result c.min-stop.result
    (omega arith) c.max.ensures (omega arith) (omega arith) c.loop-sector.invariant
    (sym (found bad c.loop-sector.sector-counter c.contains.result c.contains.ensures.cases) ∙ c.if-contains.true))

pub loop-sector-preserved : goal.loop-sector-preserved
loop-sector-preserved c =
    let bad = c.args.self.now.unread.now in
    clear_more bad c.args.place c.loop-sector.sector-counter c.loop-sector.invariant
    (sym (found bad c.loop-sector.sector-counter c.contains.result c.contains.ensures.cases) ∙ c.if-contains.false)

pub returns : goal.returns
returns c =
    let bad = c.args.self.now.unread.now in
    let clear : (q : ℕ) → c.args.place ≤ q → q < c.min-stop.result → listed bad (q / 2048) ≡ false =
    elim c.if-place-stop.branch [ then-place-stop+else-loop-sector-test w ↦ λ q l u. w.loop-sector.invariant q l (omega arith) | else-place-stop w ↦ λ q l u. absurd (omega arith) ] in
    c.check.ensures ∙ sym (none_unread c.args.self.now.bytes.now bad c.args.place c.args.count c.min-stop.result (omega arith) clear)
