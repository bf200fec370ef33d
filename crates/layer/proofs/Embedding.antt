-- What an embedding shows of a part.
use Rattle.std.proofs.Common.{◌≡◌, ℕ, ◌+◌, ◌*◌, ◌<◌, ◌≤◌, Bool, true, false, cond, not, ◌&&◌, ◌⊎◌, ℤ, pos, ◌-ℤ◌, Some, None, Option, sym, refl, ap, ◌∙◌, subst, inl, inr, arith}
use Rattle.picture.specs.declared.rect.Rect.{Rect}
use Rattle.picture.specs.declared.step.Ground as declared
use Rattle.picture.specs.declared.step.Ground.TheVariants as grounds
use Rattle.picture.specs.Steps.{Formula, copied, among, nearest, embedded}
use Rattle.layer.specs.declared.spread.Spread.{Spread}
use Rattle.layer.specs.declared.aim.Carry.{Carry}
use Rattle.layer.specs.declared.aim.Aim.{Aim}
use Rattle.layer.specs.declared.aim.Aim.TheVariants as aim
use Rattle.layer.specs.Aims.{Aims, Carried, Ground, Needless}
use Rattle.layer.specs.Spreads.{Falls, Spreads, beside}
use Rattle.layer.proofs.Aiming.{copies_spread}

-- it shows the picture's nearest place
abbrev near : ℕ → ℕ → ℤ → ℤ → Formula
near W H x y = copied (nearest x W) (nearest y H)

shows_in : (a b : Bool) (f g : Formula) → a ≡ true → b ≡ true → cond (a && b) f g ≡ f
shows_in true true f g p q = refl
shows_in true false f g p q = cc
shows_in false b f g p q = cc

shows_both : (a b : Bool) (f : Formula) → cond (a && b) f f ≡ f
shows_both true true f = refl
shows_both true false f = refl
shows_both false b f = refl

-- not all of them do
one_inside : (s : Option Spread) (u : ℕ) (x : ℤ) (n m : ℕ) → 1 ≤ n → Spreads s u x n m → beside s ≡ false → (i : ℕ) × (i < n) × (among (pos (u + i) -ℤ x) m ≡ true)
one_inside None u x n m some h e = (h.place, h.one, h.there)
one_inside (Some s) u x n m some h e = (0, some, h.side 0 some ∙ ap not e)

pub spreads_moved : (s : Option Spread) (u : ℕ) (x x' : ℤ) (n m : ℕ) → x ≡ x' → Spreads s u x n m → Spreads s u x' n m
spreads_moved s u x x' n m e h = subst (λ (z : ℤ). Spreads s u z n m) e h

module _ (x y : ℤ) (W H : ℕ) (p : Rect) where
  -- the formula of an embedding's place
  abbrev pub placing : declared.Ground → ℕ → ℕ → Formula
  placing g u v = embedded g W H (pos u -ℤ x) (pos v -ℤ y)

  -- where the ground copies, or the part does not lie beside, its places show the nearest one
  abbrev pub Shows : Option Spread → Option Spread → declared.Ground → Type 0
  Shows a b g = (g ≡ grounds.Copy) ⊎ ((beside a ≡ false) × (beside b ≡ false))

  copy_near : (g : declared.Ground) (u v : ℕ) → g ≡ grounds.Copy → placing g u v ≡ near W H (pos u -ℤ x) (pos v -ℤ y)
  copy_near g u v e = ap (λ q. placing q u v) e ∙ shows_both (among (pos u -ℤ x) W) (among (pos v -ℤ y) H) (near W H (pos u -ℤ x) (pos v -ℤ y))

  inside-near : (g : declared.Ground) (u v : ℕ) → among (pos u -ℤ x) W ≡ true → among (pos v -ℤ y) H ≡ true → placing g u v ≡ near W H (pos u -ℤ x) (pos v -ℤ y)
  inside-near g u v a b = shows_in _ _ _ _ a b

  shows_near : (a b : Spread) (g : declared.Ground) → Shows (Some a) (Some b) g → Falls a p.left x p.width W → Falls b p.top y p.height H → (i j : ℕ) → i < p.width → j < p.height
      → placing g (p.left + i) (p.top + j) ≡ near W H (pos (p.left + i) -ℤ x) (pos (p.top + j) -ℤ y)
  shows_near a b g (inl e) ha hb i j li lj = copy_near g _ _ e
  shows_near a b g (inr e) ha hb i j li lj = inside-near g _ _ (ha.side i li ∙ ap not e.0) (hb.side j lj ∙ ap not e.1)

  pub is_copy : (s t : Option Spread) (a b : Spread) (c : Carry) (g : declared.Ground) → s ≡ Some a → t ≡ Some b → Shows s t g → Spreads s p.left x p.width W → Spreads t p.top y p.height H
      → c.at.left ≡ a.first → c.at.top ≡ b.first → c.at.width ≡ a.count → c.at.height ≡ b.count → c.base ≡ 0 → c.right ≡ a.step → c.left ≡ 0 → c.down ≡ b.step * a.count → c.up ≡ 0
      → Aims (Some (aim.Copy c)) (placing g) W H p
  is_copy s t a b c g ea eb sh hs ht el et ew eh e₀ e₁ e₂ e₃ e₄ =
      let ha : Falls a p.left x p.width W = subst (λ (z : Option Spread). Spreads z p.left x p.width W) ea hs in
      let hb : Falls b p.top y p.height H = subst (λ (z : Option Spread). Spreads z p.top y p.height H) eb ht in
      let near : Shows (Some a) (Some b) g = subst (λ (z : Option Spread). Shows z (Some b) g) ea (subst (λ (z : Option Spread). Shows s z g) eb sh) in
      let k = copies_spread c W H p (λ u v. nearest (pos u -ℤ x) W) (λ u v. nearest (pos v -ℤ y) H) a.step b.step
      (record { across = omega (arith, ha.within); down = omega (arith, hb.within) }) e₀ e₁ e₂ (e₃ ∙ ap (λ z. b.step * z) (sym ew)) e₄ (λ z. ew ∙ ha.lone z) (λ z. eh ∙ hb.lone z)
      (λ i j li lj. (ha.near i li ∙ ap (λ z. z + i * a.step) (sym el), omega (arith, ha.room i li), hb.near j lj ∙ ap (λ z. z + j * b.step) (sym et), omega (arith, hb.room j lj))) ha.single hb.single in
      (k.inside, λ i j li lj. subst (Carried c i j) (sym (shows_near a b g near ha hb i j li lj)) (k.each i j li lj), k.wide, k.steady)

  pub is_edge : (r : Option Aim) (a b : Option Spread) (g : declared.Ground) → r ≡ None → Shows a b g → Spreads a p.left x p.width W → Spreads b p.top y p.height H → (a ≡ None) ⊎ (b ≡ None) → Aims r (placing g) W H p
  is_edge r a b g e sh ha hb z = subst (λ (o : Option Aim). Aims o (placing g) W H p) (sym e) (long a b ha hb z, λ idle. needs a b sh ha hb idle)
    where
      long : (a b : Option Spread) → Spreads a p.left x p.width W → Spreads b p.top y p.height H → (a ≡ None) ⊎ (b ≡ None) → 3 ≤ p.width + p.height
      long None b ha hb h = omega (arith, ha.more, p.high)
      long (Some s) None ha hb h = omega (arith, hb.more, p.wide)
      long (Some s) (Some t) ha hb (inl e) = let z : ◌≡◌ {A = ℕ} 0 1 = cc in absurd (omega arith)
      long (Some s) (Some t) ha hb (inr e) = let z : ◌≡◌ {A = ℕ} 0 1 = cc in absurd (omega arith)

      needs : (a b : Option Spread) → Shows a b g → Spreads a p.left x p.width W → Spreads b p.top y p.height H → Needless (placing g) p → ⊥
      needs a b (inl e) ha hb idle = subst Ground (copy_near g _ _ e) (idle 0 0 p.wide p.high)
      needs a b (inr e) ha hb idle =
          let q = one_inside a p.left x p.width W p.wide ha e.0 in
          let r = one_inside b p.top y p.height H p.high hb e.1 in
          subst Ground (inside-near g _ _ q.2 r.2) (idle q.0 r.0 q.1 r.1)
