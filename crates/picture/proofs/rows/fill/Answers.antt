use Rattle.std.proofs.Common.{◌≡◌, ℕ, ◌+◌, ◌-◌, ◌*◌, ◌≤◌, length, Some, Err, sym, ap, ◌∙◌, subst, mul_comm, arith, rules}
use Rattle.std.proofs.lemmas.Result.{err_from_is_err_and}
use borrow.Rule.Slice.PartMut.{put_mid}
use Rattle.std.proofs.lemmas.Slice.{drop-put_mid}
use Rattle.picture.specs.Places.{first_fault, or_else}
use Rattle.picture.specs.Prepare.{Shown, area, coded, first_in, lined, nth, or_fault}
use Rattle.picture.proofs.Faults.{first_append, first_same, first_stays, first_moved, fault_of_err, shown_clean}
use Rattle.picture.proofs.Serving.{next_row, row_end, row_is, shown_more}
use Rattle.picture.proofs.rows.fill.Goals as goal

pub returns-in_err-row : goal.returns-in_err-row
returns-in_err-row g c =
    let p = err_from_is_err_and c.from_residual.result c.from_residual.ensures.1 in
    let r = c.args.rect in
    let j = c.loop-j.j in
    let i = g.R.Rows.view c.args.rows.now in
    let v = g.met.R.Rows.shows c.args.rows.now c.loop-j.rows c.loop-j.invariant.2 in
    let l : length c.row.new.out ≡ j * r.width + r.width - j * r.width = search rules in
    let h : j * r.width + r.width ≤ area r = row_end j r.width r.height (area r) c.loop-j-test.true (omega arith) in
    let m : length c.row.new.out ≡ r.width = omega arith in
    let a : Err c.in_err-row.field-0.0 ≡ first_in (lined i r.left (r.top + j)) r.width =
    first_moved i (g.R.Rows.view c.loop-j.rows) r.left (r.top + j) _ r.width _ c.in_err-row.ensures.answer v (sym c.row.auto.out ∙ m) in
    let f : first_fault (lined i r.left (r.top + j)) r.width ≡ Some c.in_err-row.field-0.0 = fault_of_err _ _ a in
    let e : first_fault (nth i r) (j * r.width + r.width) ≡ Some c.in_err-row.field-0.0 =
    first_append (nth i r) (j * r.width) r.width
    ∙ ap (λ x. or_else x (first_fault (λ k. nth i r (j * r.width + k)) r.width)) (shown_clean g.R.Pixel.Kind.ops (nth i r) (j * r.width) c.loop-j.buffer c.loop-j.invariant.0)
    ∙ first_same (λ k. nth i r (j * r.width + k)) (lined i r.left (r.top + j)) r.width (λ k m. row_is i r j k m) ∙ f in
    record {
      answer = p.1 ∙ ap Err p.2 ∙ ap or_fault (sym (first_stays (nth i r) (j * r.width + r.width) (area r) c.in_err-row.field-0.0 h e));
      shown = λ z. let y = p.1 in let n : ◌≡◌ {A = ℕ} 0 1 = cc in absurd (omega arith);
      rest = drop-put_mid (j * r.width) _ c.loop-j.buffer c.row.new.out (area r) (omega arith) (omega arith) l ∙ c.loop-j.invariant.1;
      same = g.met.R.Rows.follows _ _ _ c.loop-j.invariant.2 c.row.ensures.same;
    }

pub loop-j-preserved : goal.loop-j-preserved
loop-j-preserved g c =
    let r = c.args.rect in
    let j = c.loop-j.j in
    let o = g.R.Pixel.Kind.ops in
    let i = g.R.Rows.view c.args.rows.now in
    let v = g.met.R.Rows.shows c.args.rows.now c.loop-j.rows c.loop-j.invariant.2 in
    let l : length c.row.new.out ≡ j * r.width + r.width - j * r.width = search rules in
    let m : length c.row.new.out ≡ r.width = omega arith in
    let h : j * r.width + r.width ≤ area r = row_end j r.width r.height (area r) c.loop-j-test.true (omega arith) in
    let s : Shown o (lined i r.left (r.top + j)) r.width c.row.new.out =
    λ k n. ap (λ z. coded o (lined z r.left (r.top + j) k)) v ∙ c.row.ensures.shown c.in_ok-row.was k (omega (arith, c.row.auto.out)) in (
      subst (λ x. Shown o (nth i r) x (put_mid (j * r.width) (j * r.width + r.width - j * r.width) c.loop-j.buffer c.row.new.out)) (sym (next_row j r.width))
          (shown_more o (nth i r) c.loop-j.buffer c.row.new.out (j * r.width) _ r.width (omega arith) m c.loop-j.invariant.0
          (λ k n. ap (coded o) (row_is i r j k n) ∙ s k n)),
      drop-put_mid (j * r.width) _ c.loop-j.buffer c.row.new.out (area r) (omega arith) (omega arith) l ∙ c.loop-j.invariant.1,
      g.met.R.Rows.follows _ _ _ c.loop-j.invariant.2 c.row.ensures.same,
    )

pub returns : goal.returns
returns g c =
    let r = c.args.rect in
    let i = g.R.Rows.view c.args.rows.now in
    let e : c.loop-j.j * r.width ≡ area r = let q : c.loop-j.j ≡ r.height = omega arith in ap (λ x. x * r.width) q ∙ mul_comm r.height r.width in
    let s : Shown g.R.Pixel.Kind.ops (nth i r) (area r) c.loop-j.buffer = subst (λ n. Shown g.R.Pixel.Kind.ops (nth i r) n c.loop-j.buffer) e c.loop-j.invariant.0 in
    record {
      answer = ap or_fault (sym (shown_clean g.R.Pixel.Kind.ops (nth i r) (area r) c.loop-j.buffer s));
      shown = λ z. s;
      rest = c.loop-j.invariant.1;
      same = c.loop-j.invariant.2;
    }
