-- Parts of a rectangle, laid one beside another.
use Rattle.std.proofs.Common.{◌≡◌, ℕ, ◌+◌, ◌-◌, ◌*◌, ◌/◌, ◌%◌, ◌<◌, ◌≤◌, ◌⊎◌, List, ◌++◌, length, get_or, take, sym, ap, ◌∙◌, subst, ⊎_elim, arith, rules}
use borrow.Rule.Slice.PartMut.{post_of, put_mid}
use Rattle.std.proofs.lemmas.List.{get_or_append_left, get_or-append_right, get_or-drop, get_or-take, length-take-le}
use Rattle.std.proofs.lemmas.Slice.{drop-put_mid}
use Rattle.std.proofs.lemmas.Nat.{div-mul-add, mod-mul-add, mul-add-lt}
use Rattle.picture.specs.declared.rect.Rect.{Rect}
use Rattle.picture.specs.Prepare.{area}
use Rattle.picture.specs.Region.{Within}
use Rattle.layer.specs.Aims.{spot}
use Rattle.layer.specs.Laid.{Among, Laid, Part}

below_or : (i n : ℕ) → (i < n) ⊎ (n ≤ i)
below_or i n = search rules

abbrev Marks : Type 1
Marks = ℕ → ℕ → ℕ → Type 0

-- w columns from x on and h rows from y on lie in the rectangle
pub record Held (r : Rect) (x y w h : ℕ) : Type 0 where
  pub left : r.left ≤ x
  pub top : r.top ≤ y
  pub right : x + w ≤ r.left + r.width
  pub bottom : y + h ≤ r.top + r.height

pub held_within : (r : Rect) (x y w h u v : ℕ) → Held r x y w h → Among x y w h u v → Within r u v
held_within r x y w h u v k a = record { left = omega (arith, k.left, a.left); top = omega (arith, k.top, a.top); right = omega (arith, k.right, a.right); bottom = omega (arith, k.bottom, a.bottom) }

-- two places of a rectangle at the same spot
same_spot : (r : Rect) (u v x y : ℕ) → Within r u v → Within r x y → spot r u v ≡ spot r x y → (u ≡ x) × (v ≡ y)
same_spot r u v x y p q e =
    let lu : u - r.left < r.width = omega (arith, p.left, p.right) in
    let lx : x - r.left < r.width = omega (arith, q.left, q.right) in
    let c : u - r.left ≡ x - r.left = sym (mod-mul-add (v - r.top) r.width (u - r.left) lu) ∙ ap (λ k. k % r.width) e ∙ mod-mul-add (y - r.top) r.width (x - r.left) lx in
    let d : v - r.top ≡ y - r.top = sym (div-mul-add (v - r.top) r.width (u - r.left) lu) ∙ ap (λ k. k / r.width) e ∙ div-mul-add (y - r.top) r.width (x - r.left) lx in
    (omega (arith, p.left, q.left), omega (arith, p.top, q.top))

pub spot_below : (r : Rect) (x y : ℕ) → Within r x y → spot r x y < area r
spot_below r x y w =
    mul-add-lt (y - r.top) r.width (x - r.left) r.height (omega (arith, w.top, w.bottom)) (omega (arith, w.left, w.right))

-- a part of a list is written over
put_front : (t row : List ℕ) (a m k : ℕ) → a ≤ length t → k < a → get_or (put_mid a m t row) k 0 ≡ get_or t k 0
put_front t row a m k h l =
    get_or_append_left (take a t) (row ++ post_of a m t) 0 k (omega (arith, length-take-le a t h)) ∙ get_or-take a t k 0 l

put_part : (t row : List ℕ) (a m k : ℕ) → a ≤ length t → k < length row → get_or (put_mid a m t row) (a + k) 0 ≡ get_or row k 0
put_part t row a m k h l =
    let e : a + k - a ≡ k = omega arith in
    get_or-append_right (take a t) (row ++ post_of a m t) a (a + k) 0 (length-take-le a t h) (omega arith)
    ∙ ap (λ z. get_or (row ++ post_of a m t) z 0) e ∙ get_or_append_left row (post_of a m t) 0 k l

put_back : (t row : List ℕ) (a m k : ℕ) → a ≤ length t → length row ≡ m → a + m ≤ k → get_or (put_mid a m t row) k 0 ≡ get_or t k 0
put_back t row a m k h e l =
    let s : a + m + (k - (a + m)) ≡ k = omega arith in
    ap (λ z. get_or (put_mid a m t row) z 0) (sym s) ∙ sym (get_or-drop (a + m) _ (k - (a + m)) 0) ∙ ap (λ z. get_or z (k - (a + m)) 0) (drop-put_mid a m t row (a + m) (omega arith) h e)
    ∙ get_or-drop (a + m) _ (k - (a + m)) 0 ∙ ap (λ z. get_or t z 0) s

-- row j of a part is written over
pub laid_row : (r p : Rect) (j a m : ℕ) (P : Marks) (t row : List ℕ) → Part r p → j < p.height → length t ≡ area r → a ≡ spot r p.left (p.top + j) → length row ≡ p.width → m ≡ p.width
    → ((i : ℕ) → i < p.width → P (p.left + i) (p.top + j) (get_or row i 0)) → Laid r p.left (p.top + j) p.width 1 P t (put_mid a m t row)
laid_row r p j a m P t row k lj room ea e em f = record {
  inside = λ u v b.
      let ev : v ≡ p.top + j = omega (arith, b.top, b.bottom) in
      let eu : u ≡ p.left + (u - p.left) = omega (arith, b.left) in
      let es : spot r u v ≡ a + (u - p.left) = omega (arith, ap (λ z. (z - r.top) * r.width) ev, k.left, b.left) in
      let q : P (p.left + (u - p.left)) (p.top + j) (get_or row (u - p.left) 0) = f (u - p.left) (omega (arith, b.left, b.right)) in
      let there : get_or (put_mid a m t row) (spot r u v) 0 ≡ get_or row (u - p.left) 0 =
      ap (λ z. get_or (put_mid a m t row) z 0) es ∙ put_part t row a m (u - p.left) here (omega (arith, b.left, b.right)) in
      subst (P u v) (sym there) (subst (λ (z : ℕ). P u z (get_or row (u - p.left) 0)) (sym ev) (subst (λ (z : ℕ). P z (p.top + j) (get_or row (u - p.left) 0)) (sym eu) q));
  outside = λ u v i n.
      ⊎_elim (λ lt. put_front t row a m (spot r u v) here lt)
      (λ ge. ⊎_elim
      (λ lt. let c = same_spot r u v (p.left + (spot r u v - a)) (p.top + j) i (within (spot r u v - a) (omega arith)) (omega (arith, k.left)) in
      absurd (n (record { left = omega (arith, c.0); top = omega (arith, c.1); right = omega (arith, c.0); bottom = omega (arith, c.1) })))
      (λ past. put_back t row a m (spot r u v) here (omega arith) past)
      (below_or (spot r u v) (a + m)))
      (below_or (spot r u v) a);
}
  where
    within : (i : ℕ) → i < p.width → Within r (p.left + i) (p.top + j)
    within i l = record { left = omega (arith, k.left); top = omega (arith, k.top); right = omega (arith, k.right); bottom = omega (arith, k.bottom) }

    first : Within r p.left (p.top + j)
    first = record { left = k.left; top = omega (arith, k.top); right = omega (arith, k.right, p.wide); bottom = omega (arith, k.bottom) }

    here : a ≤ length t
    here = omega (arith, spot_below r p.left (p.top + j) first)

pub laid_beside : (r : Rect) (x y a b h : ℕ) (P : Marks) (t₀ t₁ t₂ : List ℕ) → Held r x y (a + b) h → Laid r x y a h P t₀ t₁ → Laid r (x + a) y b h P t₁ t₂ → Laid r x y (a + b) h P t₀ t₂
laid_beside r x y a b h P t₀ t₁ t₂ k one two = record {
  inside = λ u v i.
      ⊎_elim
      (λ lt. subst (P u v) (sym (two.outside u v (held_within r x y (a + b) h u v k i) (λ j. omega (arith, j.left))))
      (one.inside u v (record { left = i.left; top = i.top; right = lt; bottom = i.bottom })))
      (λ ge. two.inside u v (record { left = ge; top = i.top; right = omega (arith, i.right); bottom = i.bottom }))
      (below_or u (x + a));
  outside = λ u v w n.
      two.outside u v w (λ j. n (record { left = omega (arith, j.left); top = j.top; right = omega (arith, j.right); bottom = j.bottom }))
      ∙ one.outside u v w (λ j. n (record { left = j.left; top = j.top; right = omega (arith, j.right); bottom = j.bottom }));
}

pub laid_above : (r : Rect) (x y w a b : ℕ) (P : Marks) (t₀ t₁ t₂ : List ℕ) → Held r x y w (a + b) → Laid r x y w a P t₀ t₁ → Laid r x (y + a) w b P t₁ t₂ → Laid r x y w (a + b) P t₀ t₂
laid_above r x y w a b P t₀ t₁ t₂ k one two = record {
  inside = λ u v i.
      ⊎_elim
      (λ lt. subst (P u v) (sym (two.outside u v (held_within r x y w (a + b) u v k i) (λ j. omega (arith, j.top))))
      (one.inside u v (record { left = i.left; top = i.top; right = i.right; bottom = lt })))
      (λ ge. two.inside u v (record { left = i.left; top = ge; right = i.right; bottom = omega (arith, i.bottom) }))
      (below_or v (y + a));
  outside = λ u v z n.
      two.outside u v z (λ j. n (record { left = j.left; top = omega (arith, j.top); right = j.right; bottom = omega (arith, j.bottom) }))
      ∙ one.outside u v z (λ j. n (record { left = j.left; top = j.top; right = j.right; bottom = omega (arith, j.bottom) }));
}

-- what is said of a part may be said in other words
pub laid_as : (r : Rect) (x y w h : ℕ) (P Q : Marks) (t₀ t₁ : List ℕ) → ((u v c : ℕ) → Among x y w h u v → P u v c → Q u v c) → Laid r x y w h P t₀ t₁ → Laid r x y w h Q t₀ t₁
laid_as r x y w h P Q t₀ t₁ f l = record { inside = λ u v a. f u v _ a (l.inside u v a); outside = l.outside }
