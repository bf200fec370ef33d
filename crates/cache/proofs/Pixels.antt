-- Pixels that a prepare answers, place by place.
use Rattle.std.proofs.Common.{◌≡◌, ℕ, zero, suc, ◌+◌, ◌<◌, ◌≤◌, true, List, ◌++◌, map, length, get_or, drop, replicate, is_some, Some, None, Option, sym, refl, ap, ◌∙◌, subst, ⊎_elim, arith}
use Rattle.std.proofs.lemmas.List.{get_or_append_left}
use Rattle.std.proofs.lemmas.List.FromFn.{get_or-map-range_with_len, length-map-range_with_len}
use Rattle.std.proofs.lemmas.Option.{none-some}
use Rattle.std.proofs.lemmas.Bool.{cases_lt}
use Rattle.std.specs.List.{range_with_len}
use Rattle.pixel.specs.Ops.{Ops}
use Rattle.picture.specs.declared.fault.Fault.{Fault}
use Rattle.picture.specs.declared.rect.Rect.{Rect}
use Rattle.picture.specs.Refusals.{done, refused}
use Rattle.picture.specs.Places.{Place, pixel, hole, fault_of, or_else, first_fault}
use Rattle.picture.specs.Images.{Image}
use Rattle.picture.specs.Prepare.{area, nth, holed, answer, put, code_at, coded, Shown, filled}
use Rattle.picture.proofs.Faults.{shown_clean}
use Rattle.picture.proofs.Serving.{answer_is, filled_is, whole}

or_none : {X : Type 0} (x y : Option X) → or_else x y ≡ None → (x ≡ None) × (y ≡ None)
or_none None y e = (refl, e)
or_none (Some x) y e = absurd (none-some x (sym e))

-- where no place is a hole, each is a pixel
none_each : {K : Type 0} (f : ℕ → Place K) (n : ℕ) → first_fault f n ≡ None → (k : ℕ) → k < n → fault_of (f k) ≡ None
none_each f zero e k h = absurd (omega arith)
none_each f (suc n) e k h =
    let w = or_none (first_fault f n) (fault_of (f n)) e in
    ⊎_elim (λ (lt : k < n). none_each f n w.0 k lt) (λ (le : n ≤ k). let q : n ≡ k = omega arith in subst (λ j. fault_of (f j) ≡ None) q w.1) (cases_lt k n)

holed-none : (x : Option Fault) → done ≡ holed x → x ≡ None
holed-none None e = refl
holed-none (Some f) e = let z : ◌≡◌ {A = ℕ} 0 1 = cc in absurd (omega arith)

holed_some : (x : Option Fault) (n : ℕ) (vs : List ℕ) → refused n vs ≡ holed x → is_some x ≡ true
holed_some None n vs e = let z : ◌≡◌ {A = ℕ} 0 1 = cc in absurd (omega arith)
holed_some (Some f) n vs e = refl

put_at : (f : ℕ → ℕ) (n k : ℕ) (buf : List ℕ) → k < n → get_or (put None f n buf) k 0 ≡ f k
put_at f n k buf h =
    let l : k < length (map f (range_with_len 0 n)) = omega (arith, length-map-range_with_len f 0 n) in
    get_or_append_left (map f (range_with_len 0 n)) (drop n buf) 0 k l ∙ get_or-map-range_with_len f 0 n k k 0 h (omega arith)

put-over : (x : Option Fault) (f : ℕ → ℕ) (n : ℕ) (xs ys : List ℕ) → drop n xs ≡ drop n ys → put x f n xs ≡ put x f n ys
put-over None f n xs ys e = ap (λ l. map f (range_with_len 0 n) ++ l) e
put-over (Some g) f n xs ys e = ap (λ l. replicate n 0 ++ l) e

module _ {K S : Type 0} (o : Ops K S) where
  clean_coded : (p : Place K) → fault_of p ≡ None → coded o p ≡ Some (code_at o p)
  clean_coded (pixel k) e = refl
  clean_coded (hole f) e = absurd (none-some f (sym e))

  module _ (b : Image K) (r : Rect) (buf : List ℕ) (x : r.left + r.width ≤ b.width) (y : r.top + r.height ≤ b.height) (z : area r ≤ length buf) where
    -- a prepare that was answered
    pub answered : (codes : List ℕ) → done ≡ answer b r (length buf) → codes ≡ filled o b r buf
        → (first_fault (nth b r) (area r) ≡ None) × Shown o (nth b r) (area r) codes
    answered codes h c =
        let f : ℕ → ℕ = λ k. code_at o (nth b r k) in
        let none : first_fault (nth b r) (area r) ≡ None = holed-none _ (h ∙ answer_is b r (length buf) x y z) in
        let wrote : codes ≡ put None f (area r) buf = c ∙ filled_is o b r buf x y z ∙ ap (λ v. put v f (area r) buf) none in (
          none,
          λ k lt. clean_coded (nth b r k) (none_each (nth b r) (area r) none k lt) ∙ ap Some (sym (ap (λ l. get_or l k 0) wrote ∙ put_at f (area r) k buf lt)),
        )

    -- a prepare that was refused
    pub refuses : (n : ℕ) (vs : List ℕ) → refused n vs ≡ answer b r (length buf) → is_some (first_fault (nth b r) (area r)) ≡ true
    refuses n vs h = holed_some _ n vs (h ∙ answer_is b r (length buf) x y z)

    -- a buffer that holds every pixel, and further on what it held
    pub serves : (codes : List ℕ) → length codes ≡ length buf → Shown o (nth b r) (area r) codes → drop (area r) codes ≡ drop (area r) buf
        → (done ≡ answer b r (length buf)) × (codes ≡ filled o b r buf)
    serves codes len shown rest = (
      sym (answer_is b r (length buf) x y z ∙ ap holed (shown_clean o (nth b r) (area r) codes shown)),
      whole o (nth b r) (area r) buf codes (omega arith) shown rest ∙ sym (filled_is o b r buf x y z),
    )

    -- what a prepare leaves depends only on what it does not write
    pub filled-over : (other : List ℕ) → length other ≡ length buf → drop (area r) other ≡ drop (area r) buf → filled o b r other ≡ filled o b r buf
    filled-over other len rest =
        filled_is o b r other x y (omega arith) ∙ put-over (first_fault (nth b r) (area r)) (λ k. code_at o (nth b r k)) (area r) other buf rest
        ∙ sym (filled_is o b r buf x y z)
