use Rattle.std.proofs.Common.{◌≡◌, ◌+◌, length, get_or, drop, Ok, Err, sym, ap, ◌∙◌, arith}
use Rattle.std.proofs.lemmas.Result.{err_from_is_err_and}
use Rattle.source.specs.declared.header.HeaderError.TheVariants.{End}
use Rattle.source.specs.Header.{class_of, next, run}
use Rattle.source.proofs.Running.{ok_is, err_is, run_at, run_end, not_ended, ended_at}
use Rattle.source.proofs.header.scan.Goals as goal

pub returns-in_err-take : goal.returns-in_err-take
returns-in_err-take c =
    let r = c.loop-i.reader in
    let p = c.loop-i.i + 2 in
    let x = next p r.state (class_of (get_or c.args.rest.now c.loop-i.i 0)) r in
    let f = c.in_err-take.field-0.0 in
    let e = err_is x c.take.result f c.take.ensures.answer c.in_err-take.was in
    let h = run_at r p c.args.rest.now c.loop-i.i (Err f) c.loop-i-test.true e in
    let q = err_from_is_err_and c.from_residual.result c.from_residual.ensures.1 in
    rw (q.1, q.2) (sym (c.loop-i.invariant ∙ h))

pub returns-in-Done : goal.returns-in-Done
returns-in-Done c =
    let r = c.loop-i.reader in
    let s = c.take.new.self in
    let p = c.loop-i.i + 2 in
    let x = next p r.state (class_of (get_or c.args.rest.now c.loop-i.i 0)) r in
    let e = ok_is x r s c.take.result c.take.ensures.answer c.in_ok-take.was c.take.ensures.after in
    let h = run_at r p c.args.rest.now c.loop-i.i (Ok s) c.loop-i-test.true e in
    let n : p + 1 ≡ c.loop-i.i + 3 = omega arith in
    sym (c.loop-i.invariant ∙ h ∙ ended_at s.state s (p + 1) (c.loop-i.i + 3) (run s (p + 1) (drop (c.loop-i.i + 1) c.args.rest.now)) c.in-Done.is n)

pub loop-i-preserved : goal.loop-i-preserved
loop-i-preserved c =
    let r = c.loop-i.reader in
    let s = c.take.new.self in
    let p = c.loop-i.i + 2 in
    let x = next p r.state (class_of (get_or c.args.rest.now c.loop-i.i 0)) r in
    let e = ok_is x r s c.take.result c.take.ensures.answer c.in_ok-take.was c.take.ensures.after in
    let h = run_at r p c.args.rest.now c.loop-i.i (Ok s) c.loop-i-test.true e in
    let n : p + 1 ≡ c.loop-i.i + 1 + 2 = omega arith in
    c.loop-i.invariant ∙ h ∙ not_ended s.state s (p + 1) (run s (p + 1) (drop (c.loop-i.i + 1) c.args.rest.now)) c.in_default.not-Done
    ∙ ap (λ m. run s m (drop (c.loop-i.i + 1) c.args.rest.now)) n

pub returns : goal.returns
returns c =
    let n : c.loop-i.i ≡ length c.args.rest.now = omega arith in
    sym (c.loop-i.invariant ∙ run_end c.loop-i.reader (c.loop-i.i + 2) c.args.rest.now c.loop-i.i c.loop-i-test.false ∙ ap (λ k. Err (End (k + 2))) n)
