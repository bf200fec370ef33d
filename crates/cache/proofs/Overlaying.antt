-- The entries of a cell, laid over those of a rectangle.
use Rattle.std.proofs.Common.{◌≡◌, ℕ, ◌+◌, ◌-◌, ◌*◌, ◌/◌, ◌%◌, ◌<◌, ◌≤◌, min, max, ◌≢◌, List, length, get_or, drop, inl, inr, ⊎_elim, sym, ap, ◌∙◌, mul-le-mul_right, mul_comm, add-mul, one-mul, arith}
use borrow.Rule.Slice.PartMut.{put_mid}
use Rattle.std.proofs.lemmas.Bool.{cases_lt}
use Rattle.std.proofs.lemmas.List.{get_or-drop}
use Rattle.cache.proofs.Parts.{outside, within}
use Rattle.std.proofs.lemmas.Nat.{mul-add-lt, div-mul-add, mod-mul-add}
use Rattle.picture.specs.declared.rect.Rect.{Rect}
use Rattle.picture.specs.Prepare.{area}
use Rattle.cache.specs.Boxes.{Copied, Others, spot, Overlaid}

pub shifted : (a j l i p : ℕ) → a * p + l + (j * p + i) ≡ (a + j) * p + (l + i)
shifted a j l i p = omega (arith, add-mul a j p)

pub row_fits : (v q n h : ℕ) → v < h → n ≤ q → v * q + n ≤ q * h
row_fits v q n h lt le =
    let m : v + 1 ≤ h = omega arith in
    omega (arith, mul-le-mul_right q m, add-mul v 1 q, one-mul q, mul_comm h q)

-- a place is found again from its number
pub place_of : (u v p i j : ℕ) → u < p → i < p → v * p + u ≡ j * p + i → (v ≡ j) × (u ≡ i)
place_of u v p i j lu li e = (
  sym (div-mul-add v p u lu) ∙ ap (λ n. n / p) e ∙ div-mul-add j p i li,
  sym (mod-mul-add v p u lu) ∙ ap (λ n. n % p) e ∙ mod-mul-add j p i li,
)

module _ (from : List ℕ) (cell rect : Rect) (was : List ℕ) (left right top bottom : ℕ)
    (el : left ≡ max cell.left rect.left) (er : right ≡ min (cell.left + cell.width) (rect.left + rect.width))
    (et : top ≡ max cell.top rect.top) (eb : bottom ≡ min (cell.top + cell.height) (rect.top + rect.height))
    (some : left < right) (any : top < bottom) (fits : area rect ≤ length was) where
  abbrev at : ℕ
  at = (top - rect.top) * rect.width + (left - rect.left)

  abbrev start : ℕ
  start = (top - cell.top) * cell.width + (left - cell.left)

  -- a box was copied to `new`, which was the list from the box's first entry on
  module _ (part over new : List ℕ) (n : ℕ) (same : part ≡ drop start from) (old : over ≡ drop at was) (long : length new ≡ n) (all : at + n ≡ length was)
      (copied : Copied part cell.width new rect.width (right - left) (bottom - top)) (others : Others over new rect.width (right - left) (bottom - top)) where
    kept : (k : ℕ) → ((j : ℕ) → j < bottom - top → (i : ℕ) → i < right - left → k ≢ at + (j * rect.width + i)) → get_or (put_mid at n was new) k 0 ≡ get_or was k 0
    kept k none =
        let le : at + n ≤ length was = omega arith in
        ⊎_elim
        (λ (l : k < at). outside at n k was new long le (inl l))
        (λ (l : at ≤ k).
        let e : at + (k - at) ≡ k = omega arith in
        ⊎_elim
        (λ (m : k < at + n).
        ap (λ q. get_or (put_mid at n was new) q 0) (sym e) ∙ within at n (k - at) was new long le (omega arith)
        ∙ others (k - at) (λ j lj i li f. none j lj i li (omega arith)) ∙ ap (λ l. get_or l (k - at) 0) old ∙ get_or-drop at was (k - at) 0 ∙ ap (λ q. get_or was q 0) e)
        (λ (m : at + n ≤ k). outside at n k was new long le (inr m))
        (cases_lt k (at + n)))
        (cases_lt k at)

    pub overlaid : Overlaid from cell rect was (put_mid at n was new)
    overlaid =
        record {
          inside = λ x y wc wr.
              let ly : y - top < bottom - top = omega (arith, wc.top, wc.bottom, wr.top, wr.bottom) in
              let lx : x - left < right - left = omega (arith, wc.left, wc.right, wr.left, wr.right) in
              let m = (y - top) * rect.width + (x - left) in
              let e : at + m ≡ spot rect x y =
              shifted (top - rect.top) (y - top) (left - rect.left) (x - left) rect.width
              ∙ ap (λ n. n * rect.width + (left - rect.left + (x - left))) (omega (arith, wc.top, wr.top)) ∙ ap (λ n. (y - rect.top) * rect.width + n) (omega (arith, wc.left, wr.left)) in
              let f : start + ((y - top) * cell.width + (x - left)) ≡ spot cell x y =
              shifted (top - cell.top) (y - top) (left - cell.left) (x - left) cell.width
              ∙ ap (λ n. n * cell.width + (left - cell.left + (x - left))) (omega (arith, wc.top, wr.top)) ∙ ap (λ n. (y - cell.top) * cell.width + n) (omega (arith, wc.left, wr.left)) in
              let lu : x - rect.left < rect.width = omega (arith, wr.left, wr.right) in
              let lv : y - rect.top < rect.height = omega (arith, wr.top, wr.bottom) in
              let lm : m < n = omega (arith, mul-add-lt (y - rect.top) rect.width (x - rect.left) rect.height lv lu) in
              ap (λ q. get_or (put_mid at n was new) q 0) (sym e) ∙ within at n m was new long (omega arith) lm
              ∙ copied (y - top) ly (x - left) lx ∙ ap (λ l. get_or l ((y - top) * cell.width + (x - left)) 0) same
              ∙ get_or-drop start from ((y - top) * cell.width + (x - left)) 0 ∙ ap (λ n. get_or from n 0) f;
          outside = λ x y none wr. kept (spot rect x y) (λ j lj i li e.
              let lu : x - rect.left < rect.width = omega (arith, wr.left, wr.right) in
              let lv : left - rect.left + i < rect.width = omega arith in
              let p = place_of (x - rect.left) (y - rect.top) rect.width (left - rect.left + i) (top - rect.top + j) lu lv (e ∙ shifted (top - rect.top) j (left - rect.left) i rect.width) in
              none (record {
                left = omega (arith, p.1, wr.left);
                right = omega (arith, p.1, wr.left);
                top = omega (arith, p.0, wr.top);
                bottom = omega (arith, p.0, wr.top);
              }));
          rest = λ k le. kept k (λ j lj i li e.
              let lv : left - rect.left + i < rect.width = omega arith in
              let lh : top - rect.top + j < rect.height = omega arith in
              omega (arith, shifted (top - rect.top) j (left - rect.left) i rect.width, mul-add-lt (top - rect.top + j) rect.width (left - rect.left + i) rect.height lh lv));
        }
