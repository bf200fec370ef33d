use Rattle.std.proofs.Common.{◌≡◌, ℕ, ◌+◌, ◌-◌, ◌≤◌, List, length, Err, sym, ap, ◌∙◌, arith, rules}
use Rattle.std.proofs.lemmas.Result.{err_from_is_err_and}
use borrow.Rule.Slice.PartMut.{put_mid}
use Rattle.pixel.specs.Ops.{Ops}
use Rattle.picture.specs.Images.{Image}
use Rattle.picture.specs.Prepare.{Shown, coded, first_in, lined, or_fault}
use Rattle.picture.proofs.Faults.{first_moved, first_on, line_on, shown_clean}
use Rattle.picture.proofs.Serving.{shown_more}
use Rattle.source.specs.Showing.{same_shown, shown_of}
use Rattle.source.proofs.file.FileSourceRows.row.Goals as goal

-- one more run is shown
run_on : {K S : Type 0} (o : Ops K S) (i j : Image K) (left row from m n : ℕ) (out part : List ℕ) → i ≡ j → from ≤ length out → length part ≡ n → Shown o (lined i left row) from out
    → Shown o (lined j (left + from) row) n part → Shown o (lined i left row) (from + n) (put_mid from m out part)
run_on o i j left row from m n out part v h l s t =
    shown_more o (lined i left row) out part from m n h l s
    (λ k d. ap (coded o) (sym (line_on i left row from k)) ∙ ap (λ z. coded o (lined z (left + from) row k)) v ∙ t k d)

pub loop-from-preserved : goal.loop-from-preserved
loop-from-preserved g c =
    let o = g.K.Kind.ops in
    let from = c.loop-from.from in
    let i = shown_of o g.S.Store.at c.args.self.now in
    let v = same_shown o g.S.Store.at c.args.self.now c.loop-from.self c.loop-from.invariant.1 in
    let l : length c.run.new.out ≡ c.min-n.result = search rules in (
      λ k h. run_on o i _ c.args.left c.args.row from _ c.min-n.result c.loop-from.out c.run.new.out v c.loop-from.invariant.2 l c.loop-from.invariant.0
          (λ j d. c.run.ensures.shown c.in_ok-run.was j (omega (arith, c.run.auto.out, l))) k (omega arith),
      (c.loop-from.invariant.1.0 ∙ c.run.ensures.same.0, c.loop-from.invariant.1.1 ∙ c.run.ensures.same.1, c.loop-from.invariant.1.2 ∙ c.run.ensures.same.2),
      search rules,
    )

pub returns-in_err-run-clause-answer : goal.returns-in_err-run-clause-answer
returns-in_err-run-clause-answer g c =
    let o = g.K.Kind.ops in
    let from = c.loop-from.from in
    let i = shown_of o g.S.Store.at c.args.self.now in
    let p = err_from_is_err_and c.from_residual.result c.from_residual.ensures.1 in
    let v = same_shown o g.S.Store.at c.args.self.now c.loop-from.self c.loop-from.invariant.1 in
    let l : length c.run.new.out ≡ c.min-n.result = search rules in
    let a : Err c.in_err-run.field-0.0 ≡ first_in (lined i (c.args.left + from) c.args.row) c.min-n.result =
    first_moved i _ (c.args.left + from) c.args.row _ c.min-n.result _ c.in_err-run.ensures.answer v (sym c.run.auto.out ∙ l) in
    p.1 ∙ ap Err p.2
    ∙ first_on i c.args.left c.args.row from c.min-n.result (length c.args.out.now) c.in_err-run.field-0.0
    (shown_clean o (lined i c.args.left c.args.row) from c.loop-from.out c.loop-from.invariant.0) a (omega arith)

pub returns-in_ok-run : goal.returns-in_ok-run
returns-in_ok-run g c =
    let o = g.K.Kind.ops in
    let from = c.loop-from.from in
    let i = shown_of o g.S.Store.at c.args.self.now in
    let v = same_shown o g.S.Store.at c.args.self.now c.loop-from.self c.loop-from.invariant.1 in
    let l : length c.run.new.out ≡ c.min-n.result = search rules in
    let s : Shown o (lined i c.args.left c.args.row) (length c.args.out.now) (put_mid from (from + c.min-n.result - from) c.loop-from.out c.run.new.out) =
    λ k h. run_on o i _ c.args.left c.args.row from _ c.min-n.result c.loop-from.out c.run.new.out v c.loop-from.invariant.2 l c.loop-from.invariant.0
    (λ j d. c.run.ensures.shown c.in_ok-run.was j (omega (arith, c.run.auto.out, l))) k (omega arith) in
    record {
      answer = ap or_fault (sym (shown_clean o (lined i c.args.left c.args.row) (length c.args.out.now) _ s));
      shown = λ z. s;
      same = (c.loop-from.invariant.1.0 ∙ c.run.ensures.same.0, c.loop-from.invariant.1.1 ∙ c.run.ensures.same.1, c.loop-from.invariant.1.2 ∙ c.run.ensures.same.2);
    }

pub returns-clause-answer : goal.returns-clause-answer
returns-clause-answer g c =
    let o = g.K.Kind.ops in
    let f = lined (shown_of o g.S.Store.at c.args.self.now) c.args.left c.args.row in
    let s : Shown o f (length c.args.out.now) c.loop-from.out = λ k h. c.loop-from.invariant.0 k (omega arith) in
    ap or_fault (sym (shown_clean o f (length c.args.out.now) c.loop-from.out s))
