use Rattle.std.proofs.Common.{◌≡◌, ◌-◌, Ok, Err, sym, ap, ◌∙◌, arith, rules, of_calls}
use Rattle.store.specs.declared.lack.Lack.{Lack}
use Rattle.store.specs.Stores.{lack_behind}
use Rattle.std.proofs.lemmas.Result.{err_from_is_err_and}
use Rattle.store.specs.Cells.{capped}
use Rattle.store.specs.Reads.{answer}
use Rattle.store.proofs.Joining.{parts, first_refuses, second_refuses, second_below, end_refuses, both_answer}
use Rattle.store.proofs.joined.JoinedStore.check.Goals as goal

pub returns-in_err-check : goal.returns-in_err-check
returns-in_err-check g c =
    let s = parts c.saturating_sub.ensures c.min-inside.ensures c.saturating_sub-2.ensures c.min-low.ensures c.saturating_sub-start.ensures in
    let r = err_from_is_err_and c.from_residual.result c.from_residual.ensures.1 in
    r.1 ∙ ap Err r.2
    ∙ first_refuses (capped (g.A.Store.at c.args.self.now.first)) (capped (g.B.Store.at c.args.self.now.second)) c.in_err-check.field-0.0 s c.in_err-check.ensures

pub map_err-requires : goal.map_err-requires
map_err-requires g c = λ e i.
    let s = parts c.saturating_sub.ensures c.min-inside.ensures c.saturating_sub-2.ensures c.min-low.ensures c.saturating_sub-start.ensures in
    let h = second_below (capped (g.B.Store.at c.args.self.now.second)) e s (sym i ∙ c.check-2.ensures) in search rules

pub returns-in_err-map_err : goal.returns-in_err-map_err
returns-in_err-map_err g c =
    let s = parts c.saturating_sub.ensures c.min-inside.ensures c.saturating_sub-2.ensures c.min-low.ensures c.saturating_sub-start.ensures in
    let r = err_from_is_err_and c.from_residual-in_err-map_err.result c.from_residual-in_err-map_err.ensures.1 in
    let h : (x : Lack) × (c.check-2.result ≡ Err x) × (c.in_err-map_err.field-0.0 ≡ lack_behind c.args.self.now.from x) = search of_calls in
    r.1 ∙ ap Err r.2
    ∙ second_refuses (capped (g.A.Store.at c.args.self.now.first)) (capped (g.B.Store.at c.args.self.now.second)) h.0 c.in_err-map_err.field-0.0 s
    c.in_ok-check.ensures (sym h.1 ∙ c.check-2.ensures) h.2

pub returns-then-inside-count : goal.returns-then-inside-count
returns-then-inside-count g c =
    let s = parts c.saturating_sub.ensures c.min-inside.ensures c.saturating_sub-2.ensures c.min-low.ensures c.saturating_sub-start.ensures in
    let h : Ok tt ≡ answer (capped (g.B.Store.at c.args.self.now.second)) c.saturating_sub-start.result (c.min-inside.result - c.min-low.result) = search rules in
    end_refuses (capped (g.A.Store.at c.args.self.now.first)) (capped (g.B.Store.at c.args.self.now.second)) s
    c.in_ok-check.ensures h (omega arith) c.max.ensures

pub returns-else-inside-count : goal.returns-else-inside-count
returns-else-inside-count g c =
    let s = parts c.saturating_sub.ensures c.min-inside.ensures c.saturating_sub-2.ensures c.min-low.ensures c.saturating_sub-start.ensures in
    let h : Ok tt ≡ answer (capped (g.B.Store.at c.args.self.now.second)) c.saturating_sub-start.result (c.min-inside.result - c.min-low.result) = search rules in
    both_answer (capped (g.A.Store.at c.args.self.now.first)) (capped (g.B.Store.at c.args.self.now.second)) s
    c.in_ok-check.ensures h (omega arith)
