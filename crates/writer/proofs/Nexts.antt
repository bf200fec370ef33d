-- The next strip of a row writer.
use Rattle.std.proofs.Common.{◌≡◌, ℕ, ◌+◌, ◌*◌, ◌/◌, ◌%◌, ◌<◌, ◌≤◌, true, false, ◌&&◌, leb, ◌⊎◌, None, sym, ap, ◌∙◌, inl, inr, zero-add, mul-add, arith}
use mathlib.Core.Path.{fun_ext}
use native.Mathlib.Nat.{mul-add-mod_self_left, mul-add-div}
use Rattle.std.proofs.lemmas.Bool.{and_parts, and_from, and_left, and_right, cond-true, cond-false, eqb-true, eq-eqb, ne_eqb, le-leb, lt-leb}
use Rattle.std.proofs.lemmas.Nat.{mul-le}
use Rattle.pixel.specs.Ops.{Ops}
use Rattle.picture.specs.declared.rect.Rect.{Rect}
use Rattle.picture.specs.Places.{first_fault}
use Rattle.picture.specs.Images.{Image}
use Rattle.writer.specs.declared.row_writer.RowWriter.{RowWriter}
use Rattle.writer.specs.File.{pixel_width}
use Rattle.writer.specs.Calls.{early, ending, rows_of, places_of, ahead, fits, strip_end}
use Rattle.writer.proofs.Ends.{Part}

module _ {K S : Type 0} (o : Ops K S) (i : Image K) (w : RowWriter) (s l m : ℕ) where
  pub end_other : fits o i w ≡ false → strip_end o i w s l m ≡ early 13
  unfolding strip_end
  end_other h = ap (λ x. ending x (first_fault (ahead i w) (places_of w s))) (cond-false _ _ _ h)

  module _ (fit : fits o i w ≡ true) where
    pub end_none : rows_of w s ≡ 0 → strip_end o i w s l m ≡ early 15
    unfolding strip_end
    end_none e = ap (λ x. ending x (first_fault (ahead i w) (places_of w s))) (cond-true _ _ _ fit ∙ cond-true _ _ _ (eq-eqb (rows_of w s) 0 e))

    pub end_short : (rows_of w s ≡ 0 → ⊥) → (l < places_of w s) ⊎ (m < places_of w s * pixel_width o w.size.maxval) → strip_end o i w s l m ≡ early 11
    unfolding strip_end
    end_short e h =
        let no : leb (places_of w s) l && leb (places_of w s * pixel_width o w.size.maxval) m ≡ false = elim h [
          | inl p ↦ and_left _ (leb (places_of w s * pixel_width o w.size.maxval) m) (lt-leb (places_of w s) l p)
          | inr p ↦ and_right (leb (places_of w s) l) _ (lt-leb (places_of w s * pixel_width o w.size.maxval) m p)
        ] in
        ap (λ x. ending x (first_fault (ahead i w) (places_of w s))) (cond-true _ _ _ fit ∙ cond-false _ _ _ (ne_eqb (rows_of w s) 0 e) ∙ cond-false _ _ _ no)

    pub end_open : (rows_of w s ≡ 0 → ⊥) → places_of w s ≤ l → places_of w s * pixel_width o w.size.maxval ≤ m → strip_end o i w s l m ≡ ending None (first_fault (ahead i w) (places_of w s))
    unfolding strip_end
    end_open e p q =
        ap (λ x. ending x (first_fault (ahead i w) (places_of w s)))
        (cond-true _ _ _ fit ∙ cond-false _ _ _ (ne_eqb (rows_of w s) 0 e)
        ∙ cond-true _ _ _ (and_from _ _ (le-leb (places_of w s) l p) (le-leb (places_of w s * pixel_width o w.size.maxval) m q)))

module _ {K S : Type 0} (o : Ops K S) (i : Image K) (w : RowWriter) (fit : fits o i w ≡ true) where
  pub as_wide : w.size.width ≡ i.width
  as_wide = eqb-true w.size.width i.width (and_parts _ _ (and_parts _ _ fit).0).0

  pub as_high : w.size.height ≡ i.height
  as_high = eqb-true w.size.height i.height (and_parts _ _ (and_parts _ _ fit).0).1

  pub as_bright : w.size.maxval ≡ i.maxval
  as_bright = eqb-true w.size.maxval i.maxval (and_parts _ _ (and_parts _ _ fit).1).0

  -- the rectangle of the next rows has the places ahead
  pub rows_part : (s : ℕ) (r : Rect) → r.left ≡ 0 → r.top ≡ w.next → r.width ≡ w.size.width → r.height ≡ rows_of w s → Part i r (ahead i w) (places_of w s)
  rows_part s r el et ew eh =
      let W = as_wide in
      let H = as_high in
      let z = w.within in
      let ww : r.width ≡ i.width = ew ∙ W in
      record {
        across = omega arith;
        down = omega arith;
        many = ap (λ n. n * r.height) ew ∙ ap (λ n. w.size.width * n) eh;
        same = fun_ext (λ k.
            let x : r.left + k % r.width ≡ (w.size.width * w.next + k) % i.width =
            ap (λ n. n + k % r.width) el ∙ zero-add (k % r.width) ∙ ap (λ n. k % n) ww
            ∙ sym (mul-add-mod_self_left i.width w.next k) ∙ ap (λ n. (n * w.next + k) % i.width) (sym W) in
            let y : r.top + k / r.width ≡ (w.size.width * w.next + k) / i.width =
            ap (λ n. n + k / r.width) et ∙ ap (λ n. w.next + k / n) ww
            ∙ sym (mul-add-div {m = i.width} (let h = w.size.wide in omega arith) w.next k) ∙ ap (λ n. (n * w.next + k) / i.width) (sym W) in
            ap (λ n. i.at n (r.top + k / r.width)) x ∙ ap (i.at ((w.size.width * w.next + k) % i.width)) y);
      }

  -- they are places of the picture
  pub ahead_in : (s : ℕ) → w.size.width * w.next + places_of w s ≤ i.width * i.height
  ahead_in s =
      let W = as_wide in
      let H = as_high in
      let z = w.within in
      let m = mul-le w.size.width (w.next + rows_of w s) i.width i.height (omega arith) (omega arith) in
      omega (arith, mul-add w.size.width w.next (rows_of w s))
