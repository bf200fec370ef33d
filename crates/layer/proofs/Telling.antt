-- The taps of a window tell the first hole in reading order.
use Rattle.std.proofs.Common.{◌≡◌, ℕ, ◌+◌, ◌-◌, ◌*◌, ◌/◌, ◌%◌, ◌<◌, ◌≤◌, min, Bool, true, false, cond, ◌&&◌, ◌⊎◌, ℤ, pos, ◌-ℤ◌, Some, None, Option, sym, refl, ap, ◌∙◌, subst, inl, inr, ⊎_elim, div-mul-le_self, arith, rules}
use Rattle.std.proofs.lemmas.Nat.{div-add-mod', div-mul-add, le-div, mod_below, mod-mul-add}
use Rattle.pixel.specs.Ops.{Ops}
use Rattle.picture.specs.declared.fault.Fault.{Fault}
use Rattle.picture.specs.declared.step.Ground as declared
use Rattle.picture.specs.declared.step.Ground.TheVariants as grounds
use Rattle.picture.specs.declared.step.Axis.TheVariants.{Horizontal, Vertical}
use Rattle.picture.specs.declared.step.Turn.TheVariants.{D90, D270}
use Rattle.picture.specs.declared.step.Step.TheVariants.{Same, Crop, Embed, Flip, Rot, Shrink, Conv}
use Rattle.picture.specs.Compose.{taken, tapped, unless}
use Rattle.picture.specs.Images.{Image}
use Rattle.picture.specs.Places.{Place, pixel, hole, fault_of, first_fault}
use Rattle.picture.specs.Steps.{Tap, copied, mixed, among, ground_of, grounded, nearest}
use Rattle.layer.specs.Laws.{FirstHole, FirstHoleTold, NoLater}
use Rattle.layer.proofs.Holes.{First, first_some}

abbrev Rises : (ℕ → ℕ) → Type 0
Rises f = (i j : ℕ) → i ≤ j → f i ≤ f j

-- taps in rows of a places, whose columns and rows rise
record Ordered (a : ℕ) (tap : ℕ → Tap) : Type 0 where
  some : 1 ≤ a
  across : ℕ → ℕ
  down : ℕ → ℕ
  rightwards : Rises across
  downwards : Rises down
  columns : (k : ℕ) → (tap k).column ≡ across (k % a)
  rows : (k : ℕ) → (tap k).row ≡ down (k / a)

below_or : (i n : ℕ) → (i < n) ⊎ (n ≤ i)
below_or i n = search rules

place_hole : {K : Type 0} (p : Place K) (e : Fault) → fault_of p ≡ Some e → p ≡ hole e
place_hole (pixel k) e h = cc
place_hole (hole f) e h = let q : f ≡ e = cc in ap hole q

not_clean : {K : Type 0} (p : Place K) (f : Fault) → p ≡ hole f → fault_of p ≡ None → ⊥
not_clean p f h c = let z : ◌≡◌ {A = Option Fault} (Some f) None = sym (ap fault_of h) ∙ c in let n : ◌≡◌ {A = ℕ} 0 1 = cc in omega arith

module _ {K : Type 0} (b : Image K) (a n : ℕ) (tap : ℕ → Tap) (t : Ordered a tap) (e : Fault) (w : First (tapped b.at tap) n e) where
  abbrev at : ℕ
  at = w.index

  -- a tap's place is the same in an upper row of the same height
  raised : (i : ℕ) → t.down (i / a) ≡ t.down (at / a) → tapped b.at tap (at / a * a + i % a) ≡ tapped b.at tap i
  raised i same =
      let j = at / a * a + i % a in
      let l = mod_below i a t.some in
      let ec : (tap j).column ≡ (tap i).column = t.columns j ∙ ap t.across (mod-mul-add (at / a) a (i % a) l) ∙ sym (t.columns i) in
      let er : (tap j).row ≡ (tap i).row = t.rows j ∙ ap t.down (div-mul-add (at / a) a (i % a) l) ∙ sym same ∙ sym (t.rows i) in
      ap (λ z. b.at z (tap j).row) ec ∙ ap (λ z. b.at (tap i).column z) er

  later : (i : ℕ) (f : Fault) → i < n → tapped b.at tap i ≡ hole f → NoLater (tap at).column (tap at).row (tap i).column (tap i).row
  later i f l h =
      ⊎_elim
      (λ lt. absurd (not_clean _ f h (w.earlier i lt)))
      (λ ge.
      let up : t.down (at / a) ≤ t.down (i / a) = t.downwards (at / a) (i / a) (le-div (at / a) i a t.some (omega (arith, div-mul-le_self at a))) in
      ⊎_elim
      (λ lt. inl (omega (arith, t.rows at, t.rows i)))
      (λ le.
      let same : t.down (i / a) ≡ t.down (at / a) = omega arith in
      inr (
        omega (arith, t.rows at, t.rows i),
        ⊎_elim
            (λ lt. absurd (not_clean _ f (raised i same ∙ h) (w.earlier (at / a * a + i % a) (omega (arith, div-add-mod' at a)))))
            (λ le'. omega (arith, t.columns at, t.columns i, t.rightwards (at % a) (i % a) le'))
            (below_or (i % a) (at % a)),
      ))
      (below_or (t.down (at / a)) (t.down (i / a))))
      (below_or i at)

unless_hole : {K : Type 0} (x : Option Fault) (p : K) (e : Fault) → unless x p ≡ hole e → x ≡ Some e
unless_hole None p e h = cc
unless_hole (Some f) p e h = let q : f ≡ e = cc in ap Some q

module _ {K S : Type 0} (o : Ops K S) where
  copied_first : (b : Image K) (x y : ℕ) (e : Fault) → b.at x y ≡ hole e → FirstHole b (copied x y) e
  copied_first b x y e h = record { column = x; row = y; named = (refl, refl); here = h; first = λ u v m f g. inr (m.1, omega (arith, m.0)) }

  mixed_first : (b : Image K) (a n : ℕ) (tap : ℕ → Tap) (scale : ℕ) (offset : ℤ) (e : Fault) → Ordered a tap → taken o b.maxval b.at (mixed n tap scale offset) ≡ hole e → FirstHole b (mixed n tap scale offset) e
  mixed_first b a n tap scale offset e t h =
      let w = first_some (tapped b.at tap) n e (unless_hole (first_fault (tapped b.at tap) n) _ e h) in
      record {
        column = (tap w.index).column;
        row = (tap w.index).row;
        named = (w.index, w.below, refl, refl);
        here = place_hole _ e w.here;
        first = λ x y m f g.
            subst (λ z. NoLater (tap w.index).column (tap w.index).row z y) m.2
            (subst (λ z. NoLater (tap w.index).column (tap w.index).row (tap m.0).column z) m.3
            (later b a n tap t e w m.0 f m.1 (ap (λ z. b.at z (tap m.0).row) m.2 ∙ ap (λ z. b.at x z) m.3 ∙ g)));
      }

  embedded_first : (b : Image K) (g : declared.Ground) (x y : ℤ) (e : Fault) (c : Bool)
      → taken o b.maxval b.at (cond c (copied (nearest x b.width) (nearest y b.height)) (grounded g b.width b.height x y)) ≡ hole e
      → FirstHole b (cond c (copied (nearest x b.width) (nearest y b.height)) (grounded g b.width b.height x y)) e
  embedded_first b g x y e true h = copied_first b _ _ e h
  embedded_first b grounds.Black x y e false h = let z : ◌≡◌ {A = ℕ} 0 1 = cc in absurd (omega arith)
  embedded_first b grounds.White x y e false h = let z : ◌≡◌ {A = ℕ} 0 1 = cc in absurd (omega arith)
  embedded_first b grounds.Copy x y e false h = copied_first b _ _ e h

  pub first_hole_told : FirstHoleTold o
  first_hole_told Same b u v e a h = copied_first b _ _ e h
  first_hole_told (Crop l t w r) b u v e a h = copied_first b _ _ e h
  first_hole_told (Embed x y w r g) b u v e a h = embedded_first b (ground_of g) (pos u -ℤ x) (pos v -ℤ y) e (among (pos u -ℤ x) b.width && among (pos v -ℤ y) b.height) h
  first_hole_told (Flip Horizontal) b u v e a h = copied_first b _ _ e h
  first_hole_told (Flip Vertical) b u v e a h = copied_first b _ _ e h
  first_hole_told (Rot D90) b u v e a h = copied_first b _ _ e h
  first_hole_told (Rot D270) b u v e a h = copied_first b _ _ e h
  first_hole_told (Shrink f g) b u v e a h =
      let one : 1 ≤ f = search rules in
      mixed_first b f (f * g) _ (f * g) (pos 0) e
      (record { some = one; across = λ q. u * f + q; down = λ r. v * g + r; rightwards = λ i j l. omega arith; downwards = λ i j l. omega arith; columns = λ k. refl; rows = λ k. refl }) h
  first_hole_told (Conv m) b u v e a h =
      mixed_first b 3 9 _ _ _ e
      (record {
        some = omega arith;
        across = λ q. min (u + q - 1) (b.width - 1);
        down = λ r. min (v + r - 1) (b.height - 1);
        rightwards = λ i j l. omega arith;
        downwards = λ i j l. omega arith;
        columns = λ k. refl;
        rows = λ k. refl;
      }) h
