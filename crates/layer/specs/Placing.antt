-- A step that stands over a picture whose size the layer keeps.
use Rattle.std.specs.Prelude.{◌≡◌, ℕ, zero, suc, ◌+◌, ◌*◌, ◌≤◌, true, List, [], ◌∷◌, ℤ, pos, slice_index_or, unsigned_abs}
use Rattle.std.proofs.Common.{sym, ◌∙◌, ap, subst, add-suc, add-zero, arith}
use Rattle.std.proofs.lemmas.Nat.{mul-le}
use Rattle.pixel.specs.Ops.{Ops}
use Rattle.picture.specs.declared.rect.Rect.{Rect}
use Rattle.picture.specs.declared.size.Size.{Size}
use Rattle.picture.specs.declared.step.Mask.{Mask}
use Rattle.picture.specs.declared.step.Mask.TheVariants.{Blur, Sharpen, Relief}
use Rattle.picture.specs.declared.step.Step.{Step}
use Rattle.picture.specs.Compose.{layered}
use Rattle.picture.specs.Images.{Image, Model}
use Rattle.picture.specs.Prepare.{up}
use Rattle.picture.specs.Steps.{Formula, black, white, copied, mixed, fitting, formula, kernel, width_of, height_of}
use Rattle.layer.specs.declared.aim.Lens.{Lens}
use Rattle.layer.specs.Layered.{Layered}
use Rattle.layer.specs.Aims.{Few, Inside, Mixed}
use Rattle.layer.specs.Layers.{Kept, laid_over, model_of, raised}
use Rattle.layer.specs.Standing.{Stands}

module _ {K : Type 0} (b : Image K) (s : Step) (z : Size) where
  -- a place's formula over the size that is kept
  pub stood : (x y u v : ℕ) → Stands b s z → x ≡ u → y ≡ v → formula s z.width z.height x y ≡ formula s b.width b.height u v
  stood x y u v h ex ey =
      ap (λ k. formula s z.width z.height k y) ex ∙ ap (λ k. formula s z.width z.height u k) ey
      ∙ ap (λ k. formula s k z.height u v) h.width ∙ ap (λ k. formula s b.width k u v) h.height

  pub stood_wide : Stands b s z → width_of s b.width b.height ≡ width_of s z.width z.height
  stood_wide h = sym (ap (λ k. width_of s k z.height) h.width ∙ ap (λ k. width_of s b.width k) h.height)

  pub stood_high : Stands b s z → height_of s b.width b.height ≡ height_of s z.width z.height
  stood_high h = sym (ap (λ k. height_of s k z.height) h.width ∙ ap (λ k. height_of s b.width k) h.height)

  pub stood_fits : Stands b s z → fitting s b.width b.height ≡ true
  stood_fits h = ap (λ k. fitting s k b.height) (sym h.width) ∙ ap (λ k. fitting s z.width k) (sym h.height) ∙ h.fits

  pub stood_still : (a : Image K) → a ≡ b → Stands b s z → Stands a s z
  stood_still a e h = subst (λ (x : Image K). Stands x s z) (sym e) h

  pub stood_inside : (r : Rect) → Stands b s z → Inside r z.width z.height → Inside r b.width b.height
  stood_inside r h i = record { across = omega (arith, i.across, h.width); down = omega (arith, i.down, h.height) }

-- no weight of a mask is heavy
abbrev Light : List ℤ → Type 0
Light [] = Unit {0}
Light (w ∷ ws) = (unsigned_abs w ≤ 256) × Light ws

light_at : (ws : List ℤ) → Light ws → (k : ℕ) → unsigned_abs (slice_index_or ws k (pos 0)) ≤ 256
light_at [] h k = omega arith
light_at (w ∷ ws) h zero = h.0
light_at (w ∷ ws) h (suc k) = light_at ws h.1 k

light_table : (m : Mask) → Light (kernel m).coefficients
light_table Blur = (omega arith, (omega arith, (omega arith, (omega arith, (omega arith, (omega arith, (omega arith, (omega arith, (omega arith, tt)))))))))
light_table Sharpen = (omega arith, (omega arith, (omega arith, (omega arith, (omega arith, (omega arith, (omega arith, (omega arith, (omega arith, tt)))))))))
light_table Relief = (omega arith, (omega arith, (omega arith, (omega arith, (omega arith, (omega arith, (omega arith, (omega arith, (omega arith, tt)))))))))

pub light_mask : (m : Mask) (ws : List ℤ) → ws ≡ (kernel m).coefficients → (k : ℕ) → unsigned_abs (slice_index_or ws k (pos 0)) ≤ 256
light_mask m ws e = light_at ws (subst Light (sym e) (light_table m))

pub mask_scaled : (m : Mask) → 1 ≤ (kernel m).scale
mask_scaled Blur = omega arith
mask_scaled Sharpen = omega arith
mask_scaled Relief = omega arith

-- the same weights, scale and offset in other words
pub mixed_as : (l : Lens) (w x : ℕ → ℤ) (s t : ℕ) (f g : ℤ) (i j : ℕ) (φ : Formula) → ((k : ℕ) → w k ≡ x k) → s ≡ t → f ≡ g → Mixed l w s f i j φ → Mixed l x t g i j φ
mixed_as l w x s t f g i j black e a b m = m
mixed_as l w x s t f g i j white e a b m = m
mixed_as l w x s t f g i j (copied p q) e a b m = m
mixed_as l w x s t f g i j (mixed n tap scale offset) e a b m =
    record { all = m.all; scaled = m.scaled ∙ a; moved = m.moved ∙ b; columns = m.columns; rows = m.rows; weights = λ k h. m.weights k h ∙ e k }

pub few_places : (l : Lens) → Few l → 1 ≤ l.columns * l.rows
few_places l h = mul-le 1 1 l.columns l.rows h.some h.any

raised_add : (n k c : ℕ) → raised n (raised k c) ≡ raised (k + n) c
raised_add zero k c = ap (λ z. raised z c) (sym (add-zero k))
raised_add (suc n) k c = ap up (raised_add n k c) ∙ ap (λ z. raised z c) (sym (add-suc k n))

module _ {P K S : Type 0} (o : Ops K S) (model : P → Model K) (count : P → ℕ) where
  pub kept-none : (l m : Layered P) → l.below ≡ m.below → l.over.step ≡ m.over.step → l.over.size ≡ m.over.size → l.count ≡ m.count → Kept o model count l m
  kept-none l m b s z c = record { shows = ap model b; step = s; size = z; count = c; times = 0; asked = ap count (sym b) }

  pub kept_one : (l m : Layered P) → model m.below ≡ model l.below → count m.below ≡ up (count l.below) → l.over.step ≡ m.over.step → l.over.size ≡ m.over.size → l.count ≡ m.count → Kept o model count l m
  kept_one l m e a s z c = record { shows = sym e; step = s; size = z; count = c; times = 1; asked = a }

  pub kept_times : (l m : Layered P) → model m.below ≡ model l.below → ((n : ℕ) × (count m.below ≡ raised n (count l.below))) → l.over.step ≡ m.over.step → l.over.size ≡ m.over.size → l.count ≡ m.count → Kept o model count l m
  kept_times l m e a s z c = record { shows = sym e; step = s; size = z; count = c; times = a.0; asked = a.1 }

  pub kept_follows : (l m n : Layered P) → Kept o model count l m → Kept o model count m n → Kept o model count l n
  kept_follows l m n a b = record {
    shows = a.shows ∙ b.shows;
    step = a.step ∙ b.step;
    size = a.size ∙ b.size;
    count = a.count ∙ b.count;
    times = a.times + b.times;
    asked = b.asked ∙ ap (raised b.times) a.asked ∙ raised_add b.times a.times (count l.below);
  }

  pub kept_shows : (l m : Layered P) → Kept o model count l m → model_of o model l ≡ model_of o model m
  kept_shows l m k = ap (λ s. laid_over o s (model l.below)) k.step ∙ ap (laid_over o m.over.step) k.shows

  pub kept_layers : (l m : Layered P) → Kept o model count l m → layered o l.over.step (model l.below) ≡ layered o m.over.step (model m.below)
  kept_layers l m k = ap (λ s. layered o s (model l.below)) k.step ∙ ap (layered o m.over.step) k.shows
