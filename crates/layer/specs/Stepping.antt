-- The ways to make a part make what the steps' formulas ask for.
use Rattle.std.specs.Prelude.{◌≡◌, ℕ, ◌+◌, ◌*◌, ◌/◌, ◌%◌, ◌≤◌, ℤ, pos, ◌-ℤ◌, Some, Option, refl}
use Rattle.std.proofs.Common.{sym, ◌∙◌, ap, subst, add-zero, add-mul, div-mul-le_self, mul_comm, mul-le-mul_right, arith}
use Rattle.std.proofs.lemmas.Nat.{div_below, mod_below}
use Rattle.picture.specs.declared.rect.Rect.{Rect}
use Rattle.picture.specs.declared.step.Ground as declared
use Rattle.picture.specs.declared.step.Axis.{Axis}
use Rattle.picture.specs.declared.step.Axis.TheVariants.{Horizontal, Vertical}
use Rattle.picture.specs.declared.step.Turn.{Turn}
use Rattle.picture.specs.declared.step.Turn.TheVariants.{D90, D270}
use Rattle.picture.specs.declared.step.Mask.{Mask}
use Rattle.picture.specs.declared.step.Step.{Step}
use Rattle.picture.specs.declared.step.Step.TheVariants.{Same, Crop, Embed, Flip, Rot, Shrink, Conv}
use Rattle.picture.specs.Steps.{embedded, formula, ground_of}
use Rattle.layer.specs.declared.aim.Aim.{Aim}
use Rattle.layer.specs.declared.aim.Aim.TheVariants as aim
use Rattle.layer.specs.declared.aim.Carry.{Carry}
use Rattle.layer.specs.declared.aim.Lens.{Lens}
use Rattle.layer.specs.Aims.{Aims, Boxes, Copies, Flips, Inside, Turns, Windows, lens_column, lens_row}

pub as_step : (a : Option Aim) (s t : Step) (W H : ℕ) (p : Rect) → s ≡ t → Aims a (formula t W H) W H p → Aims a (formula s W H) W H p
as_step a s t W H p e h = subst (λ (z : Step). Aims a (formula z W H) W H p) (sym e) h

wider : (at : Rect) (W H W' H' : ℕ) → W ≤ W' → H ≤ H' → Inside at W H → Inside at W' H'
wider at W H W' H' a b h = record { across = omega (arith, h.across); down = omega (arith, h.down) }

pub aims_same : (c : Carry) (W H : ℕ) (p : Rect) → Copies c (p.left + 0 + p.width) (p.top + 0 + p.height) p (λ u v. u + 0) (λ u v. v + 0) → p.left + p.width ≤ W → p.top + p.height ≤ H
    → Aims (Some (aim.Copy c)) (formula Same W H) W H p
aims_same c W H p k x y = (wider c.at _ _ W H (omega arith) (omega arith) k.inside, λ i j li lj. simp add-zero at (k.each i j li lj), k.wide, k.steady)

pub aims_crop : (c : Carry) (l t w h W H : ℕ) (p : Rect) → Copies c (p.left + l + p.width) (p.top + t + p.height) p (λ u v. u + l) (λ u v. v + t) → p.left + l + p.width ≤ W → p.top + t + p.height ≤ H
    → Aims (Some (aim.Copy c)) (formula (Crop l t w h) W H) W H p
aims_crop c l t w h W H p k x y = (wider c.at _ _ W H x y k.inside, k.each, k.wide, k.steady)

pub aims_flip : (a : Axis) (c : Carry) (W H : ℕ) (p : Rect) → Flips a c W H p → Aims (Some (aim.Copy c)) (formula (Flip a) W H) W H p
aims_flip Horizontal c W H p k = (k.inside, k.each, k.wide, k.steady)
aims_flip Vertical c W H p k = (k.inside, k.each, k.wide, k.steady)

pub aims_rot : (t : Turn) (c : Carry) (W H : ℕ) (p : Rect) → Turns t c W H p → Aims (Some (aim.Copy c)) (formula (Rot t) W H) W H p
aims_rot D90 c W H p k = (k.inside, k.each, k.wide, k.steady)
aims_rot D270 c W H p k = (k.inside, k.each, k.wide, k.steady)

pub aims_embed : (a : Option Aim) (x y : ℤ) (w h W H : ℕ) (o : Option declared.Ground) (g : declared.Ground) (p : Rect) → g ≡ ground_of o → Aims a (λ u v. embedded g W H (pos u -ℤ x) (pos v -ℤ y)) W H p
    → Aims a (formula (Embed x y w h o) W H) W H p
aims_embed a x y w h W H o g p e k = subst (λ (z : declared.Ground). Aims a (λ u v. embedded z W H (pos u -ℤ x) (pos v -ℤ y)) W H p) e k

pub aims_moved : (a : Option Aim) (x x' y y' : ℤ) (W H : ℕ) (g : declared.Ground) (p : Rect) → x ≡ x' → y ≡ y' → Aims a (λ u v. embedded g W H (pos u -ℤ x) (pos v -ℤ y)) W H p
    → Aims a (λ u v. embedded g W H (pos u -ℤ x') (pos v -ℤ y')) W H p
aims_moved a x x' y y' W H g p ex ey k =
    subst (λ (z : ℤ). Aims a (λ u v. embedded g W H (pos u -ℤ x') (pos v -ℤ z)) W H p) ey (subst (λ (z : ℤ). Aims a (λ u v. embedded g W H (pos u -ℤ z) (pos v -ℤ y)) W H p) ex k)

-- w boxes from the u-th on lie inside
pub boxes_inside : (u w f W : ℕ) → u + w ≤ W / f → u * f + w * f ≤ W
boxes_inside u w f W h = omega (arith, mul-le-mul_right f h, div-mul-le_self W f, add-mul u w f)

pub aims_shrink : (l : Lens) (f g W H : ℕ) (p : Rect) → 1 ≤ f → Boxes l f g p → p.left + p.width ≤ W / f → p.top + p.height ≤ H / g → Aims (Some (aim.Mean l)) (formula (Shrink f g) W H) W H p
aims_shrink l f g W H p some k x y =
    let a = k.1 in
    let b = k.2 in
    let n : f * g ≡ l.columns * l.rows = ap (λ z. z * g) (sym a) ∙ ap (λ z. l.columns * z) (sym b) in (
      wider l.at _ _ W H (boxes_inside p.left p.width f W x) (boxes_inside p.top p.height g H y) k.0.inside,
      λ i j li lj. record {
        all = n;
        scaled = n;
        moved = refl;
        columns = λ m h. k.0.columns i (m % f) li (omega (arith, mod_below m f some)) ∙ ap (λ z. l.at.left + lens_column l i (m % z)) (sym a);
        rows = λ m h. k.0.rows j (m / f) lj (omega (arith, div_below m f g some (omega (arith, mul_comm f g)))) ∙ ap (λ z. l.at.top + lens_row l j (m / z)) (sym a);
        weights = λ m h. refl;
      },
      k.0.fair,
    )

pub aims_conv : (l : Lens) (m : Mask) (W H : ℕ) (p : Rect) → Windows l W H p → Aims (Some (aim.Masked l m)) (formula (Conv m) W H) W H p
aims_conv l m W H p k =
    let a = k.1 in
    let b = k.2 in
    let three : 1 ≤ 3 = omega arith in (
      k.0.inside,
      λ i j li lj. record {
        all = sym (ap (λ z. z * l.rows) a ∙ ap (λ z. 3 * z) b);
        scaled = refl;
        moved = refl;
        columns = λ n h. k.0.columns i (n % 3) li (omega (arith, mod_below n 3 three)) ∙ ap (λ z. l.at.left + lens_column l i (n % z)) (sym a);
        rows = λ n h. k.0.rows j (n / 3) lj (omega (arith, div_below n 3 3 three h)) ∙ ap (λ z. l.at.top + lens_row l j (n / z)) (sym a);
        weights = λ n h. refl;
      },
      k.0.fair,
    )
