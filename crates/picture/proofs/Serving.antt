-- A rectangle served row by row.
use Rattle.std.proofs.Common.{◌≡◌, ℕ, ◌+◌, ◌-◌, ◌*◌, ◌/◌, ◌<◌, ◌≤◌, Bool, true, false, cond, Err, ◌&&◌, leb, List, [], ◌++◌, map, length, get_or, take, drop, Some, sym, refl, ap, ◌∙◌, subst, ⊎_elim, mul-le-mul_right, mul_comm, add-mul, one-mul, arith}
use borrow.Rule.Slice.PartMut.{put_mid, post_of}
use Rattle.std.proofs.lemmas.List.{get_or_append_left, get_or-append_right, get_or-take, length-take-le, take-append-drop}
use Rattle.std.proofs.lemmas.Bool.{and_from, le-leb, cond-true, cond-false, cases_lt}
use Rattle.std.proofs.lemmas.Nat.{div-mul-add, mod-mul-add}
use Rattle.std.proofs.lemmas.List.FromFn.{fill_by_all}
use Rattle.std.specs.List.{range_with_len}
use Rattle.pixel.specs.Ops.{Ops}
use Rattle.picture.specs.declared.rect.Rect.{Rect}
use Rattle.picture.specs.Places.{Place, pixel, hole, first_fault}
use Rattle.picture.specs.declared.fault.Refusal.{Refusal}
use Rattle.picture.specs.Refusals.{refused, told}
use Rattle.std.proofs.lemmas.Bool.Decides.{nat_tests}
use Rattle.picture.specs.Images.{Image}
use Rattle.picture.specs.Prepare.{Admitted, area, within, inside, nth, lined, holed, answer, put, code_at, coded, Shown, filled}
use Rattle.picture.proofs.Faults.{shown_clean}

-- a part of a list is written over
put_front : (out part : List ℕ) (a m k : ℕ) → a ≤ length out → k < a → get_or (put_mid a m out part) k 0 ≡ get_or out k 0
put_front out part a m k h l =
    let e : length (take a out) ≡ a = length-take-le a out h in
    get_or_append_left (take a out) (part ++ post_of a m out) 0 k (omega arith) ∙ get_or-take a out k 0 l

put-part : (out part : List ℕ) (a m k : ℕ) → a ≤ length out → a ≤ k → k < a + length part → get_or (put_mid a m out part) k 0 ≡ get_or part (k - a) 0
put-part out part a m k h l u =
    get_or-append_right (take a out) (part ++ post_of a m out) a k 0 (length-take-le a out h) l
    ∙ get_or_append_left part (post_of a m out) 0 (k - a) (omega arith)

pub row_end : (j w h len : ℕ) → j < h → w * h ≤ len → j * w + w ≤ len
row_end j w h len l r =
    let le : j + 1 ≤ h = omega arith in
    omega (arith, mul-le-mul_right w le, add-mul j 1 w, one-mul w, mul_comm w h)

pub next_row : (j w : ℕ) → (j + 1) * w ≡ j * w + w
next_row j w = omega (arith, add-mul j 1 w, one-mul w)

-- a row of a rectangle is a part of it in reading order
pub row_is : {K : Type 0} (i : Image K) (r : Rect) (j k : ℕ) → k < r.width → nth i r (j * r.width + k) ≡ lined i r.left (r.top + j) k
row_is i r j k h =
    ap (λ x. i.at (r.left + x) (r.top + (j * r.width + k) / r.width)) (mod-mul-add j r.width k h)
    ∙ ap (λ y. i.at (r.left + k) (r.top + y)) (div-mul-add j r.width k h)

-- inside a picture with these sides
pub inside_is : {K : Type 0} (i : Image K) (r : Rect) (W H : ℕ) → W ≡ i.width → H ≡ i.height → within W H r ≡ true → inside i r ≡ true
inside_is i r W H a b h = subst (λ w. within w i.height r ≡ true) a (subst (λ x. within W x r ≡ true) b h)

-- inside, by its sides
pub inside_by : {K : Type 0} (i : Image K) (r : Rect) → r.left + r.width ≤ i.width → r.top + r.height ≤ i.height → inside i r ≡ true
inside_by i r a b = and_from (leb (r.left + r.width) i.width) (leb (r.top + r.height) i.height) (le-leb _ _ a) (le-leb _ _ b)

pub within_across : (W H : ℕ) (r : Rect) → within W H r ≡ true → r.left + r.width ≤ W
within_across W H r h = grind (arith, nat_tests)

pub within_down : (W H : ℕ) (r : Rect) → within W H r ≡ true → r.top + r.height ≤ H
within_down W H r h = grind (arith, nat_tests)

cond_and : {X : Type 0} (a b : Bool) (x y z : X) → (a && b) ≡ false → cond a y z ≡ cond a (cond b x y) z
cond_and true b x y z h = sym (cond-false b x y h)
cond_and false b x y z h = refl

-- what is not admitted is refused so, and nothing is filled
pub refused_answer : {K : Type 0} (i : Image K) (r : Rect) (n : ℕ) (e : Refusal) → Admitted i.width i.height r n (Err e) → told e ≡ answer i r n
refused_answer i r n e h = h.1 ∙ cond_and (inside i r) (leb (area r) n) (holed (first_fault (nth i r) (area r))) (refused 11 []) (refused 10 []) h.0

-- inside, and with room for it, a prepare tells the first hole
pub answer_in : {K : Type 0} (i : Image K) (r : Rect) (n : ℕ) → inside i r ≡ true → area r ≤ n → answer i r n ≡ holed (first_fault (nth i r) (area r))
answer_in i r n a h =
    cond-true (inside i r) _ _ a ∙ cond-true (leb (area r) n) _ _ (le-leb (area r) n h)

pub answer_is : {K : Type 0} (i : Image K) (r : Rect) (n : ℕ) → r.left + r.width ≤ i.width → r.top + r.height ≤ i.height → area r ≤ n
    → answer i r n ≡ holed (first_fault (nth i r) (area r))
answer_is i r n a b h = answer_in i r n (inside_by i r a b) h

module _ {K S : Type 0} (o : Ops K S) where
  -- one more part is shown
  pub shown_more : (f : ℕ → Place K) (out part : List ℕ) (a m n : ℕ) → a ≤ length out → length part ≡ n
      → Shown o f a out → Shown o (λ k. f (a + k)) n part → Shown o f (a + n) (put_mid a m out part)
  shown_more f out part a m n h e p q k l =
      ⊎_elim (λ i. p k i ∙ ap Some (sym (put_front out part a m k h i)))
      (λ i. let s : k ≡ a + (k - a) = omega arith in
      ap (λ x. coded o (f x)) s ∙ q (k - a) (omega arith) ∙ ap Some (sym (put-part out part a m k h i (omega arith))))
      (cases_lt k a)

  coded_at : (p : Place K) (c : ℕ) → coded o p ≡ Some c → c ≡ code_at o p
  coded_at (pixel k) c e = cc
  coded_at (hole f) c e = cc

  pub filled_in : (i : Image K) (r : Rect) (buffer : List ℕ) → inside i r ≡ true → area r ≤ length buffer
      → filled o i r buffer ≡ put (first_fault (nth i r) (area r)) (λ k. code_at o (nth i r k)) (area r) buffer
  filled_in i r buffer a h =
      cond-true (inside i r && leb (area r) (length buffer)) _ _
      (and_from (inside i r) (leb (area r) (length buffer)) a (le-leb (area r) (length buffer) h))

  pub filled_is : (i : Image K) (r : Rect) (buffer : List ℕ) → r.left + r.width ≤ i.width → r.top + r.height ≤ i.height → area r ≤ length buffer
      → filled o i r buffer ≡ put (first_fault (nth i r) (area r)) (λ k. code_at o (nth i r k)) (area r) buffer
  filled_is i r buffer a b h = filled_in i r buffer (inside_by i r a b) h

  -- all are pixels, and further entries stay
  pub whole : (f : ℕ → Place K) (n : ℕ) (old new : List ℕ) → n ≤ length new → Shown o f n new → drop n new ≡ drop n old
      → new ≡ put (first_fault f n) (λ k. code_at o (f k)) n old
  whole f n old new l s d =
      let c = shown_clean o f n new s in
      let t : take n new ≡ map (λ k. code_at o (f k)) (range_with_len 0 n)
      = fill_by_all (λ k. code_at o (f k)) (take n new) n 0 (length-take-le n new l) (λ k h. get_or-take n new k 0 h ∙ coded_at (f k) (get_or new k 0) (s k h)) in
      sym (take-append-drop n new) ∙ ap (λ x. x ++ drop n new) t ∙ ap (λ x. map (λ k. code_at o (f k)) (range_with_len 0 n) ++ x) d
      ∙ ap (λ x. put x (λ k. code_at o (f k)) n old) (sym c)
