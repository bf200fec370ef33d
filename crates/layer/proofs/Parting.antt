-- A part of a step, by the ways that make it.
use Rattle.std.proofs.Common.{◌≡◌, ℕ, ◌+◌, ◌-◌, ◌*◌, ◌<◌, ◌≤◌, List, length, get_or, ℤ, pos, Some, Ok, Err, Result, sym, ap, ◌∙◌, subst, arith}
use Rattle.std.proofs.lemmas.Nat.{mul-le}
use Rattle.pixel.specs.Ops.{Ops}
use Rattle.picture.specs.declared.rect.Rect.{Rect}
use Rattle.picture.specs.declared.size.Size.{Size}
use Rattle.picture.specs.declared.step.Mask.{Mask}
use Rattle.picture.specs.declared.step.Step.{Step}
use Rattle.picture.specs.Compose.{stepped, summed, taken}
use Rattle.picture.specs.Images.{Image}
use Rattle.picture.specs.Prepare.{Shown, area, coded, nth}
use Rattle.picture.specs.Steps.{Formula, black, white, copied, mixed, formula, kernel}
use Rattle.layer.specs.declared.aim.Aim.{Aim}
use Rattle.layer.specs.declared.aim.Carry.{Carry}
use Rattle.layer.specs.declared.aim.Lens.{Lens}
use Rattle.layer.specs.Aims.{Aims, Carried, Each, Ground, Mixed, Needless, Few, Lone, Readable, weights_of, lens_pixel, walked}
use Rattle.picture.specs.declared.fault.Fault.{Fault}
use Rattle.layer.specs.declared.undrawn.Undrawn.{Undrawn}
use Rattle.layer.specs.declared.undrawn.Undrawn.TheVariants.{Uncut, Hole}
use Rattle.layer.specs.Told.{Told}
use Rattle.layer.specs.Laid.{Laid, Shows}
use Rattle.layer.specs.Standing.{Stands}
use Rattle.layer.proofs.Asking.{reads_some}
use Rattle.layer.proofs.Laying.{laid_as}
use Rattle.layer.proofs.Mixing.{carried_place, mixed_pixel}
use Rattle.layer.specs.Placing.{mixed_as, stood}

carried_ground : (c : Carry) (i j : ℕ) (φ : Formula) → Carried c i j φ → Ground φ → ⊥
carried_ground c i j black m h = m
carried_ground c i j white m h = m
carried_ground c i j (copied x y) m h = h
carried_ground c i j (mixed n tap scale offset) m h = h

mixed_ground : (l : Lens) (w : ℕ → ℤ) (s : ℕ) (f : ℤ) (i j : ℕ) (φ : Formula) → Mixed l w s f i j φ → Ground φ → ⊥
mixed_ground l w s f i j black m h = m
mixed_ground l w s f i j white m h = m
mixed_ground l w s f i j (copied x y) m h = h
mixed_ground l w s f i j (mixed n tap scale offset) m h = h

-- a part that copies or mixes needs something of below
pub carried_needs : (φ : ℕ → ℕ → Formula) (p : Rect) (c : Carry) → Each φ p (Carried c) → Needless φ p → ⊥
carried_needs φ p c e n = carried_ground c 0 0 _ (e 0 0 p.wide p.high) (n 0 0 p.wide p.high)

pub mixed_needs : (φ : ℕ → ℕ → Formula) (p : Rect) (l : Lens) (w : ℕ → ℤ) (s : ℕ) (f : ℤ) → Each φ p (Mixed l w s f) → Needless φ p → ⊥
mixed_needs φ p l w s f e n = mixed_ground l w s f 0 0 _ (e 0 0 p.wide p.high) (n 0 0 p.wide p.high)

-- a part of grounds needs nothing of below
pub ground_needless : (φ : ℕ → ℕ → Formula) (p : Rect) (f : Formula) → Ground f → Each φ p (λ i j g. g ≡ f) → Needless φ p
ground_needless φ p f h e i j li lj = subst Ground (sym (e i j li lj)) h

pub mixed_at : (l : Lens) (w : ℕ → ℤ) (s : ℕ) (f : ℤ) (i j : ℕ) (p : Rect) (φ : Formula) → Mixed l w s f i j φ → Mixed l w s f (p.left + i - p.left) (p.top + j - p.top) φ
mixed_at l w s f i j p φ m =
    let ei : i ≡ p.left + i - p.left = omega arith in
    let ej : j ≡ p.top + j - p.top = omega arith in
    subst (λ (k : ℕ). Mixed l w s f (p.left + i - p.left) k φ) ej (subst (λ (k : ℕ). Mixed l w s f k j φ) ei m)

-- a region that the first window covers has room
pub lone_area : (l : Lens) → Lone l → area l.at ≤ 4096
lone_area l h = omega (arith, mul-le l.at.width l.at.height l.columns l.rows (omega (arith, h.wide)) (omega (arith, h.high)), h.few.few)

-- what an aim says, said of another name of it
pub aims_as : (a b : Aim) (φ : ℕ → ℕ → Formula) (W H : ℕ) (p : Rect) → a ≡ b → Aims (Some a) φ W H p → Aims (Some b) φ W H p
aims_as a b φ W H p e k = subst (λ (z : Aim). Aims (Some z) φ W H p) e k

-- the same of a mask's weights, scale and offset in other words
pub masked : (φ : ℕ → ℕ → Formula) (p : Rect) (l : Lens) (m : Mask) (ws : List ℤ) (s : ℕ) (f : ℤ) → ws ≡ (kernel m).coefficients → s ≡ (kernel m).scale → f ≡ (kernel m).offset
    → Each φ p (Mixed l (weights_of m) (kernel m).scale (kernel m).offset) → Each φ p (Mixed l (λ k. get_or ws k (pos 0)) s f)
masked φ p l m ws s f ew es ef k i j li lj =
    mixed_as l (weights_of m) (λ k. get_or ws k (pos 0)) (kernel m).scale s (kernel m).offset f i j _ (λ k. ap (λ y. get_or y k (pos 0)) (sym ew)) (sym es) (sym ef) (k i j li lj)

module _ {K S : Type 0} (o : Ops K S) (b : Image K) where
  -- what is drawn of each place is its code
  pub shows_drawn : (s : Step) (z : Size) (r p : Rect) (P : ℕ → ℕ → ℕ → Type 0) (t₀ t₁ : List ℕ) → Stands b s z
      → ((i j c : ℕ) → i < p.width → j < p.height → P (p.left + i) (p.top + j) c → coded o (taken o b.maxval b.at (formula s z.width z.height (p.left + i) (p.top + j))) ≡ Some c)
      → Laid r p.left p.top p.width p.height P t₀ t₁ → Shows o (stepped o s b) r p t₀ t₁
  shows_drawn s z r p P t₀ t₁ h e l =
      laid_as r p.left p.top p.width p.height P _ t₀ t₁
      (λ u v c a q.
      let eu : p.left + (u - p.left) ≡ u = omega (arith, a.left) in
      let ev : p.top + (v - p.top) ≡ v = omega (arith, a.top) in
      ap (λ f. coded o (taken o b.maxval b.at f)) (sym (stood b s z _ _ u v h eu ev))
      ∙ e (u - p.left) (v - p.top) c (omega (arith, a.left, a.right)) (omega (arith, a.top, a.bottom))
      (subst (λ (k : ℕ). P (p.left + (u - p.left)) k c) (sym ev) (subst (λ (k : ℕ). P k v c) (sym eu) q))) l

  pub coded_carried : (c : Carry) (codes : List ℕ) (i j : ℕ) (φ : Formula) → Shown o (nth b c.at) (area c.at) codes → Carried c i j φ → coded o (taken o b.maxval b.at φ) ≡ Some (get_or codes (walked c i j) 0)
  coded_carried c codes i j φ s m = let p = carried_place o b c i j φ m in ap (coded o) p.0 ∙ s (walked c i j) p.1

  pub coded-mixed : (d : (p : K) → o.decode (o.code p) ≡ Some p) (l : Lens) (w : ℕ → ℤ) (s : ℕ) (f : ℤ) (codes : List ℕ) (i j : ℕ) (φ : Formula) → Shown o (nth b l.at) (area l.at) codes → Mixed l w s f i j φ
      → coded o (taken o b.maxval b.at φ) ≡ Some (o.code (o.finish (summed o (lens_pixel o codes l i j) w (l.columns * l.rows)) s f b.maxval))
  coded-mixed d l w s f codes i j φ sh m = ap (coded o) (mixed_pixel o b d l w s f codes i j φ sh m)

  pub can_carry : (c : Carry) (codes : List ℕ) (i j : ℕ) (φ : Formula) → Carried c i j φ → area c.at ≤ length codes
      → (j * c.up ≤ c.base + j * c.down) × (i * c.left ≤ c.base + j * c.down - j * c.up + i * c.right) × (walked c i j < length codes)
  can_carry c codes i j black m h = absurd m
  can_carry c codes i j white m h = absurd m
  can_carry c codes i j (copied x y) m h = (m.risen, m.moved, omega (arith, (carried_place o b c i j (copied x y) m).1))
  can_carry c codes i j (mixed n tap scale offset) m h = absurd m

  pub can_read : (d : (p : K) → o.decode (o.code p) ≡ Some p) (l : Lens) (codes : List ℕ) (i j : ℕ) → Few l → i ≤ 65535 → j ≤ 65535 → area l.at ≤ length codes → Shown o (nth b l.at) (area l.at) codes → Readable o codes l i j
  can_read d l codes i j few x y h s = record { few = few; near = (x, y); room = h; pixels = λ k lt. reads_some o d (nth b l.at k) _ (s k lt) }

-- the same fault told in other words
pub told_as : {A B : Type 0} (r : Result Unit Undrawn) (x : Result A Fault) (y : Result B Fault) → ((f : Fault) → Err f ≡ x → Err f ≡ y) → Told r x → Told r y
told_as (Ok u) x y h t = tt
told_as (Err Uncut) x y h t = t
told_as (Err (Hole f)) x y h t = h f t
