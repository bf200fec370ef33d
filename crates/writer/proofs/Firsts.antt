-- The first hole of a rectangle, by columns and rows.
use Rattle.std.proofs.Common.{◌≡◌, ℕ, zero, suc, ◌+◌, ◌-◌, ◌*◌, ◌/◌, ◌%◌, ◌<◌, ◌≤◌, ◌⊎◌, List, ◌++◌, map, length, get_or, drop, replicate, Some, None, Option, Result, sym, refl, ap, ◌∙◌, subst, inl, inr, mul_comm, arith}
use native.Mathlib.Nat.{div-add-mod}
use Rattle.std.specs.List.{range_with_len}
use Rattle.std.proofs.lemmas.List.{drop_at, length-replicate, get_or_append_left, get_or-replicate}
use Rattle.std.proofs.lemmas.List.FromFn.{length-map-range_with_len}
use Rattle.std.proofs.lemmas.Nat.{div_below, mod_below}
use Rattle.pixel.specs.Ops.{Ops}
use Rattle.picture.specs.declared.fault.Fault.{Fault}
use Rattle.picture.specs.declared.fault.Refusal.{Refusal}
use Rattle.picture.specs.declared.rect.Rect.{Rect}
use Rattle.picture.specs.Refusals.{Outcome, done, refused, fault_values, outcome}
use Rattle.picture.specs.Places.{Place, pixel, hole, fault_of, or_else, first_fault}
use Rattle.picture.specs.Images.{Image, Model}
use Rattle.picture.specs.Compose.{Composed}
use Rattle.picture.specs.Region.{Within}
use Rattle.picture.specs.Prepare as prepare
use Rattle.picture.specs.Prepare.{area, nth, put, code_at}
use Rattle.picture.proofs.Serving.{answer_is, filled_is, row_is}
use Rattle.writer.specs.Log.{whole, Before, First, Answered, Answers}
use Rattle.writer.proofs.Codes.{each_clean, code_at_lem}
use Rattle.writer.proofs.Joins.{room}
use Rattle.writer.proofs.Logs.{logged}

-- the first fault is that of a hole with pixels before it
or_some : {X : Type 0} (x y : Option X) (e : X) → or_else x y ≡ Some e → (x ≡ Some e) ⊎ ((x ≡ None) × (y ≡ Some e))
or_some None y e h = inr (refl, h)
or_some (Some x) y e h = inl h

fault_hole : {K : Type 0} (p : Place K) (e : Fault) → fault_of p ≡ Some e → p ≡ hole e
fault_hole (pixel k) e h = let z : ◌≡◌ {A = ℕ} 0 1 = cc in absurd (omega arith)
fault_hole (hole f) e h = let q : f ≡ e = cc in ap hole q

clean_pixel : {K : Type 0} (p : Place K) → fault_of p ≡ None → (k : K) × (p ≡ pixel k)
clean_pixel (pixel k) h = (k, refl)
clean_pixel (hole f) h = let z : ◌≡◌ {A = ℕ} 0 1 = cc in absurd (omega arith)

apart : {K : Type 0} (p : Place K) (k : K) (f : Fault) → p ≡ pixel k → p ≡ hole f → ⊥
apart p k f a b = let z : ◌≡◌ {A = ℕ} 0 1 = ap (λ (x : Place _). elim x [ pixel y ↦ 0 | hole y ↦ 1 ]) (sym a ∙ b) in omega arith

record Found {K : Type 0} (f : ℕ → Place K) (n : ℕ) (e : Fault) : Type 0 where
  pub at : ℕ
  pub below : at < n
  pub here : f at ≡ hole e
  pub clean : first_fault f at ≡ None

found : {K : Type 0} (f : ℕ → Place K) (n : ℕ) (e : Fault) → first_fault f n ≡ Some e → Found f n e
found f zero e h = let z : ◌≡◌ {A = ℕ} 0 1 = cc in absurd (omega arith)
found f (suc n) e h = elim (or_some (first_fault f n) (fault_of (f n)) e h) [
  | inl p ↦ (let x = found f n e p in record { at = x.at; below = let b = x.below in omega arith; here = x.here; clean = x.clean })
  | inr p ↦ record { at = n; below = omega arith; here = fault_hole (f n) e p.1; clean = p.0 }
]

zero_at : (n : ℕ) (buffer : List ℕ) (k : ℕ) → k < n → get_or (replicate n 0 ++ drop n buffer) k 0 ≡ 0
zero_at n buffer k h =
    let z : length (replicate {A = ℕ} n 0) ≡ n = length-replicate n 0 in
    get_or_append_left (replicate n 0) (drop n buffer) 0 k (let w : k < length (replicate {A = ℕ} n 0) = omega arith in w) ∙ get_or-replicate n k 0 0 h

split : (k w : ℕ) → k ≡ k / w * w + k % w
split k w = omega (arith, div-add-mod k w, mul_comm w (k / w))

-- the place of (u, v) in the reading order of a rectangle
abbrev index : Rect → ℕ → ℕ → ℕ
index r u v = (v - r.top) * r.width + (u - r.left)

module _ {K : Type 0} (i : Image K) (r : Rect) where
  index_in : (u v : ℕ) → Within r u v → index r u v < area r
  index_in u v h =
      let a = h.left in
      let b = h.top in
      let c = h.right in
      let d = h.bottom in
      omega (arith, room (v - r.top) r.height r.width (omega arith), mul_comm r.width r.height)

  index_at : (u v : ℕ) → Within r u v → nth i r (index r u v) ≡ i.at u v
  index_at u v h =
      let a = h.left in
      let b = h.top in
      let c = h.right in
      let x : r.left + (u - r.left) ≡ u = omega arith in
      let y : r.top + (v - r.top) ≡ v = omega arith in
      row_is i r (v - r.top) (u - r.left) (omega arith) ∙ ap (λ z. i.at z (r.top + (v - r.top))) x ∙ ap (i.at u) y

  -- what comes before in reading order has a lower index
  index-before : (k u v : ℕ) → Within r u v → Before u v (r.left + k % r.width) (r.top + k / r.width) → index r u v < k
  index-before k u v h (inl l) =
      let a = h.left in
      let b = h.top in
      let c = h.right in
      omega (arith, split k r.width, room (v - r.top) (k / r.width) r.width (omega arith))
  index-before k u v h (inr l) =
      let a = h.left in
      let b = h.top in
      let e : (v - r.top) * r.width ≡ k / r.width * r.width = ap (λ n. n * r.width) (let z : v - r.top ≡ k / r.width = omega (arith, l.0) in z) in
      omega (arith, split k r.width, l.1)

  -- the place k of the rectangle
  pub place_in : (k : ℕ) → k < area r → Within r (r.left + k % r.width) (r.top + k / r.width)
  place_in k h =
      let w = r.wide in
      let m = mod_below k r.width (omega arith) in
      let d = div_below k r.width r.height (omega arith) (omega (arith, mul_comm r.width r.height)) in
      record { left = omega arith; top = omega arith; right = omega arith; bottom = omega arith }

  found_first : (e : Fault) → Found (nth i r) (area r) e → First i r e
  found_first e x = record {
    column = r.left + x.at % r.width;
    row = r.top + x.at / r.width;
    within = place_in x.at x.below;
    here = x.here;
    first = λ u v h b.
        let p = clean_pixel (nth i r (index r u v)) (each_clean (nth i r) x.at x.clean (index r u v) (index-before x.at u v h b)) in
        (p.0, sym (index_at u v h) ∙ p.1);
  }

module _ {K S : Type 0} (o : Ops K S) (i : Image K) (r : Rect) (before : List ℕ) (a : Result Unit Refusal) (after : List ℕ) where
  pub answered : (x : Option Fault) → first_fault (nth i r) (area r) ≡ x → outcome a ≡ prepare.holed x → after ≡ put x (λ k. code_at o (nth i r k)) (area r) before → Answered o i r before a after
  answered None e q w =
      let at : (u v : ℕ) → Within r u v → (p : K) × (i.at u v ≡ pixel p) =
      λ u v h. (let p = clean_pixel (nth i r (index r u v)) (each_clean (nth i r) (area r) e (index r u v) (index_in i r u v h)) in (p.0, sym (index_at i r u v h) ∙ p.1)) in
      record {
        fills = λ n. (
          q,
          λ u v h.
              let p = at u v h in
              (p.0, p.1, ap (λ t. get_or t (index r u v) 0) w ∙ code_at_lem (λ k. code_at o (nth i r k)) (area r) before (index r u v) (index_in i r u v h) ∙ ap (code_at o) (index_at i r u v h ∙ p.1)),
        );
        clean = λ d. at;
        tells = λ u v f h b. absurd (let p = at u v h in apart (i.at u v) p.0 f p.1 b);
        stays = ap (drop (area r)) w ∙ drop_at (map (λ k. code_at o (nth i r k)) (range_with_len 0 (area r))) (drop (area r) before) (area r) (length-map-range_with_len (λ k. code_at o (nth i r k)) 0 (area r));
      }
  answered (Some f) e q w =
      let x = found (nth i r) (area r) f e in
      record {
        fills = λ n. absurd (let p = n _ _ (place_in i r x.at x.below) in apart (nth i r x.at) p.0 f p.1 x.here);
        clean = λ d. (let bad : ◌≡◌ {A = Outcome} done (refused 12 (fault_values f)) = sym d ∙ q in let z : ◌≡◌ {A = ℕ} 0 1 = cc in absurd (omega arith));
        tells = λ u v g h b. (
          f,
          found_first i r f x,
          q,
          λ k l.
              ap (λ t. get_or t k 0) w ∙ zero_at (area r) before k l,
        );
        stays = ap (drop (area r)) w ∙ drop_at (replicate (area r) 0) (drop (area r) before) (area r) (length-replicate (area r) 0);
      }

module _ {P K S : Type 0} (o : Ops K S) (model : P → Model K) (count : P → ℕ) (bare : P → Type 0) where
  pub answers : ((p : P) → Composed o (model p)) → Answers o model count bare
  answers law p q l r before after a q' d across down room =
      let i = (model q).shown in
      let is : i ≡ whole o model count bare p = ap (λ (m : Model K). m.shown) (logged o model count bare p q l) ∙ law p in
      let x : r.left + r.width ≤ i.width = let e = ap (λ (z : Image K). z.width) is in omega arith in
      let y : r.top + r.height ≤ i.height = let e = ap (λ (z : Image K). z.height) is in omega arith in
      let D : Image K → Type 0 = λ z. Answered o z r before a after in
      subst D is (answered o i r before a after (first_fault (nth i r) (area r)) refl (d.answers ∙ answer_is i r (length before) x y room) (d.fills ∙ filled_is o i r before x y room))
