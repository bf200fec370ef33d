-- A part in two pieces.
use Rattle.std.proofs.Common.{◌≡◌, ℕ, ◌+◌, ◌-◌, List, sym, refl, subst, arith}
use Rattle.pixel.specs.Ops.{Ops}
use Rattle.picture.specs.declared.rect.Rect.{Rect}
use Rattle.picture.specs.declared.size.Size.{Size}
use Rattle.picture.specs.declared.step.Step.{Step}
use Rattle.picture.specs.Images.{Image, Model}
use Rattle.picture.specs.Steps.{Formula, formula}
use Rattle.layer.specs.declared.drawer.Drawer.{Drawer}
use Rattle.layer.specs.Aims.{Ground, Needless}
use Rattle.layer.specs.declared.cut.Cut.{Cut}
use Rattle.layer.specs.declared.cut.Cut.TheVariants.{Across, Down}
use Rattle.layer.specs.Cuts.{Above, Beside, Halves}
use Rattle.layer.specs.Laid.{Laid, Part, Shows}
use Rattle.layer.specs.Seen.{seen}
use Rattle.layer.specs.Layers.{Kept}
use Rattle.layer.specs.Standing.{Stands}
use Rattle.layer.proofs.Laying.{laid_above, laid_beside}

laid_moved : (r : Rect) (x x' y y' w w' h h' : ℕ) (P : ℕ → ℕ → ℕ → Type 0) (t₀ t₁ : List ℕ) → x ≡ x' → y ≡ y' → w ≡ w' → h ≡ h' → Laid r x y w h P t₀ t₁ → Laid r x' y' w' h' P t₀ t₁
laid_moved r x x' y y' w w' h h' P t₀ t₁ ex ey ew eh l =
    subst (λ (k : ℕ). Laid r x' y' w' k P t₀ t₁) eh (subst (λ (k : ℕ). Laid r x' y' k h P t₀ t₁) ew (subst (λ (k : ℕ). Laid r x' k w h P t₀ t₁) ey (subst (λ (k : ℕ). Laid r k y w h P t₀ t₁) ex l)))

module _ {K S : Type 0} (o : Ops K S) where
  pub shows_beside : (a b : Image K) (r p q s : Rect) (n : ℕ) (t₀ t₁ t₂ : List ℕ) → a ≡ b → Part r p → Beside p q s n → Shows o a r q t₀ t₁ → Shows o b r s t₁ t₂ → Shows o a r p t₀ t₂
  shows_beside a b r p q s n t₀ t₁ t₂ e k c one two =
      let w : n + (p.width - n) ≡ p.width = omega (arith, c.less) in
      laid_moved r _ _ _ _ _ _ _ _ _ t₀ t₂ refl refl w refl
      (laid_beside r p.left p.top n (p.width - n) p.height _ t₀ t₁ t₂ (record { left = k.left; top = k.top; right = omega (arith, k.right); bottom = k.bottom })
      (laid_moved r _ _ _ _ _ _ _ _ _ t₀ t₁ c.left₁ c.top₁ c.width₁ c.height₁ one)
      (laid_moved r _ _ _ _ _ _ _ _ _ t₁ t₂ c.left₂ c.top₂ c.width₂ c.height₂ (subst (λ (i : Image K). Shows o i r s t₁ t₂) (sym e) two)))

  pub shows_above : (a b : Image K) (r p q s : Rect) (n : ℕ) (t₀ t₁ t₂ : List ℕ) → a ≡ b → Part r p → Above p q s n → Shows o a r q t₀ t₁ → Shows o b r s t₁ t₂ → Shows o a r p t₀ t₂
  shows_above a b r p q s n t₀ t₁ t₂ e k c one two =
      let h : n + (p.height - n) ≡ p.height = omega (arith, c.less) in
      laid_moved r _ _ _ _ _ _ _ _ _ t₀ t₂ refl refl refl h
      (laid_above r p.left p.top p.width n (p.height - n) _ t₀ t₁ t₂ (record { left = k.left; top = k.top; right = k.right; bottom = omega (arith, k.bottom) })
      (laid_moved r _ _ _ _ _ _ _ _ _ t₀ t₁ c.left₁ c.top₁ c.width₁ c.height₁ one)
      (laid_moved r _ _ _ _ _ _ _ _ _ t₁ t₂ c.left₂ c.top₂ c.width₂ c.height₂ (subst (λ (i : Image K). Shows o i r s t₁ t₂) (sym e) two)))

  -- both sides of a cut
  pub shows_halves : (a b : Image K) (c : Cut) (r p q s : Rect) (t₀ t₁ t₂ : List ℕ) → a ≡ b → Part r p → Halves c p q s → Shows o a r q t₀ t₁ → Shows o b r s t₁ t₂ → Shows o a r p t₀ t₂
  shows_halves a b (Across n) r p q s t₀ t₁ t₂ e k h = shows_beside a b r p q s n t₀ t₁ t₂ e k h
  shows_halves a b (Down n) r p q s t₀ t₁ t₂ e k h = shows_above a b r p q s n t₀ t₁ t₂ e k h

-- a piece of what needs nothing needs nothing
pub needless_part : (φ : ℕ → ℕ → Formula) (p q : Rect) → Part p q → Needless φ p → Needless φ q
needless_part φ p q k n i j li lj =
    let ex : p.left + (q.left - p.left + i) ≡ q.left + i = omega (arith, k.left) in
    let ey : p.top + (q.top - p.top + j) ≡ q.top + j = omega (arith, k.top) in
    subst (λ (y : ℕ). Ground (φ (q.left + i) y)) ey
    (subst (λ (x : ℕ). Ground (φ x (p.top + (q.top - p.top + j)))) ex (n (q.left - p.left + i) (q.top - p.top + j) (omega (arith, k.left, k.right)) (omega (arith, k.top, k.bottom))))

-- and so it does of the layer that was kept
pub needless_kept : {P K S : Type 0} {g : _} {h : _} (o : Ops K S) (model : P → Model K) (count : P → ℕ) (l m : Drawer P K S g h) (p : Rect) → Kept o model count (seen l) (seen m) → Needless (formula l.over.step l.over.size.width l.over.size.height) p → Needless (formula m.over.step m.over.size.width m.over.size.height) p
needless_kept o model count l m p k n =
    subst (λ (z : Size). Needless (formula m.over.step z.width z.height) p) k.size (subst (λ (s : Step). Needless (formula s l.over.size.width l.over.size.height) p) k.step n)

-- of the picture below or of the size that is kept
pub needless_stood : {K : Type 0} (b : Image K) (s : Step) (z : Size) (p : Rect) → Stands b s z → Needless (formula s b.width b.height) p → Needless (formula s z.width z.height) p
needless_stood b s z p h n = subst (λ (k : ℕ). Needless (formula s z.width k) p) (sym h.height) (subst (λ (k : ℕ). Needless (formula s k b.height) p) (sym h.width) n)
