-- Walks and windows over a region.
use Rattle.std.proofs.Common.{◌≡◌, ℕ, ◌+◌, ◌-◌, ◌*◌, ◌<◌, ◌≤◌, min, sym, ap, ◌∙◌, subst, mul-le-mul_right, mul_assoc, mul_comm, add-mul, one-mul, arith}
use native.Mathlib.Nat.{mul-sub}
use Rattle.std.proofs.lemmas.Nat.{mul-le}
use Rattle.picture.specs.declared.rect.Rect.{Rect}
use Rattle.picture.specs.declared.step.Axis.{Axis}
use Rattle.picture.specs.declared.step.Turn.{Turn}
use Rattle.picture.specs.Prepare.{area}
use Rattle.layer.specs.declared.aim.Carry.{Carry}
use Rattle.layer.specs.declared.aim.Lens.{Lens}
use Rattle.layer.specs.Aims.{Copies, Few, Flips, Frames, Inside, Stops, Turns, walked}

-- a walk that stands b rows down and a columns right in its region
stops : (c : Carry) (i j x y a b : ℕ) → x ≡ c.at.left + a → y ≡ c.at.top + b → a < c.at.width → b < c.at.height → j * c.up ≤ c.base + j * c.down
    → i * c.left ≤ c.base + j * c.down - j * c.up + i * c.right → walked c i j ≡ b * c.at.width + a → Stops c i j x y
stops c i j x y a b ex ey la lb risen moved e =
    let ea : x - c.at.left ≡ a = omega arith in
    let eb : y - c.at.top ≡ b = omega arith in
    record {
      within = record { left = omega arith; top = omega arith; right = omega arith; bottom = omega arith };
      risen = risen;
      moved = moved;
      there = e ∙ ap (λ z. z * c.at.width + a) (sym eb) ∙ ap (λ z. (y - c.at.top) * c.at.width + z) (sym ea);
    }

sub_mul : (m n k : ℕ) → (m - n) * k ≡ m * k - n * k
sub_mul m n k = omega (arith, mul_comm (m - n) k, mul-sub k m n, mul_comm m k, mul_comm n k)

one_place : (c : Carry) → c.at.width ≡ 1 → c.at.height ≡ 1 → area c.at ≡ 1
one_place c w h = ap (λ z. z * c.at.height) w ∙ ap (λ z. 1 * z) h

pub as_flips : (a b : Axis) (c : Carry) (W H : ℕ) (p : Rect) → a ≡ b → Flips b c W H p → Flips a c W H p
as_flips a b c W H p e f = subst (λ (z : Axis). Flips z c W H p) (sym e) f

pub as_turns : (a b : Turn) (c : Carry) (W H : ℕ) (p : Rect) → a ≡ b → Turns b c W H p → Turns a c W H p
as_turns a b c W H p e f = subst (λ (z : Turn). Turns z c W H p) (sym e) f

-- as it is, a step of `right` and `down` at a time
pub copies_spread : (c : Carry) (W H : ℕ) (p : Rect) (X Y : ℕ → ℕ → ℕ) (sx sy : ℕ) → Inside c.at W H → c.base ≡ 0 → c.right ≡ sx → c.left ≡ 0 → c.down ≡ sy * c.at.width → c.up ≡ 0
    → (p.width ≡ 1 → c.at.width ≡ 1) → (p.height ≡ 1 → c.at.height ≡ 1)
    → ((i j : ℕ) → i < p.width → j < p.height → (X (p.left + i) (p.top + j) ≡ c.at.left + i * sx) × (i * sx < c.at.width) × (Y (p.left + i) (p.top + j) ≡ c.at.top + j * sy) × (j * sy < c.at.height))
    → sx ≤ 1 → sy ≤ 1 → Copies c W H p X Y
copies_spread c W H p X Y sx sy at e₀ e₁ e₂ e₃ e₄ w h each lx ly = record {
  inside = at;
  each = λ i j li lj.
      let f = each i j li lj in
      let m₁ : i * c.right ≡ i * sx = ap (λ z. i * z) e₁ in
      let m₂ : i * c.left ≡ 0 = ap (λ z. i * z) e₂ ∙ omega arith in
      let m₃ : j * c.down ≡ j * sy * c.at.width = ap (λ z. j * z) e₃ ∙ sym (mul_assoc j sy c.at.width) in
      let m₄ : j * c.up ≡ 0 = ap (λ z. j * z) e₄ ∙ omega arith in
      stops c i j _ _ (i * sx) (j * sy) f.0 f.2 f.1 f.3 (omega arith) (omega arith) (omega arith);
  wide = λ a b. one_place c (w a) (h b);
  steady = record { base = omega arith; right = omega arith; left = omega arith; down = omega (arith, mul-le-mul_right c.at.width ly, one-mul c.at.width, c.at.across); up = omega arith };
}

-- upside down
pub copies_upturned : (c : Carry) (W H : ℕ) (p : Rect) → p.left + p.width ≤ W → p.top + p.height ≤ H → c.at.left ≡ p.left → c.at.top ≡ H - p.top - p.height → c.at.width ≡ p.width → c.at.height ≡ p.height
    → c.base ≡ (p.height - 1) * p.width → c.right ≡ 1 → c.left ≡ 0 → c.down ≡ 0 → c.up ≡ p.width → Copies c W H p (λ u v. u) (λ u v. H - 1 - v)
copies_upturned c W H p x y l t w h e₀ e₁ e₂ e₃ e₄ = record {
  inside = record { across = omega arith; down = omega arith };
  each = λ i j li lj.
      let le : j ≤ p.height - 1 = omega arith in
      let m₁ : i * c.right ≡ i = ap (λ z. i * z) e₁ ∙ omega arith in
      let m₂ : i * c.left ≡ 0 = ap (λ z. i * z) e₂ ∙ omega arith in
      let m₃ : j * c.down ≡ 0 = ap (λ z. j * z) e₃ ∙ omega arith in
      let m₄ : j * c.up ≡ j * p.width = ap (λ z. j * z) e₄ in
      let m₅ : (p.height - 1 - j) * c.at.width ≡ (p.height - 1) * p.width - j * p.width = ap (λ z. (p.height - 1 - j) * z) w ∙ sub_mul (p.height - 1) j p.width in
      let m₆ : j * p.width ≤ (p.height - 1) * p.width = mul-le-mul_right p.width le in
      stops c i j _ _ i (p.height - 1 - j) (omega arith) (omega arith) (omega arith) (omega arith) (omega arith) (omega arith) (omega arith);
  wide = λ a b. one_place c (w ∙ a) (h ∙ b);
  steady = record { base = omega (arith, mul-le (p.height - 1) p.width 65535 65535 (omega (arith, p.down)) (omega (arith, p.across))); right = omega (arith, p.across, p.down); left = omega (arith, p.across, p.down); down = omega (arith, p.across, p.down); up = omega (arith, p.across, p.down) };
}

-- a quarter to the right
pub copies_quarter : (c : Carry) (W H : ℕ) (p : Rect) → p.left + p.width ≤ H → p.top + p.height ≤ W → c.at.left ≡ p.top → c.at.top ≡ H - p.left - p.width → c.at.width ≡ p.height → c.at.height ≡ p.width
    → c.base ≡ (p.width - 1) * p.height → c.right ≡ 0 → c.left ≡ p.height → c.down ≡ 1 → c.up ≡ 0 → Copies c W H p (λ u v. v) (λ u v. H - 1 - u)
copies_quarter c W H p x y l t w h e₀ e₁ e₂ e₃ e₄ = record {
  inside = record { across = omega arith; down = omega arith };
  each = λ i j li lj.
      let le : i ≤ p.width - 1 = omega arith in
      let m₁ : i * c.right ≡ 0 = ap (λ z. i * z) e₁ ∙ omega arith in
      let m₂ : i * c.left ≡ i * p.height = ap (λ z. i * z) e₂ in
      let m₃ : j * c.down ≡ j = ap (λ z. j * z) e₃ ∙ omega arith in
      let m₄ : j * c.up ≡ 0 = ap (λ z. j * z) e₄ ∙ omega arith in
      let m₅ : (p.width - 1 - i) * c.at.width ≡ (p.width - 1) * p.height - i * p.height = ap (λ z. (p.width - 1 - i) * z) w ∙ sub_mul (p.width - 1) i p.height in
      let m₆ : i * p.height ≤ (p.width - 1) * p.height = mul-le-mul_right p.height le in
      stops c i j _ _ j (p.width - 1 - i) (omega arith) (omega arith) (omega arith) (omega arith) (omega arith) (omega arith) (omega arith);
  wide = λ a b. one_place c (w ∙ b) (h ∙ a);
  steady = record { base = omega (arith, mul-le (p.width - 1) p.height 65535 65535 (omega (arith, p.across)) (omega (arith, p.down))); right = omega (arith, p.across, p.down); left = omega (arith, p.across, p.down); down = omega (arith, p.across, p.down); up = omega (arith, p.across, p.down) };
}

-- a place of the i-th of some boxes of f places
box_column : (u i n f q w : ℕ) → i < n → q < f → w ≡ n * f → (u + i) * f + q ≡ u * f + min (i * f + q - 0) (w - 1)
box_column u i n f q w li lq e =
    let le : i + 1 ≤ n = omega arith in
    omega (arith, add-mul u i f, mul-le-mul_right f le, add-mul i 1 f, one-mul f)

pub frames_boxes : (l : Lens) (f g : ℕ) (p : Rect) → 1 ≤ f → f ≤ 64 → 1 ≤ g → g ≤ 64 → l.at.left ≡ p.left * f → l.at.top ≡ p.top * g → l.at.width ≡ p.width * f → l.at.height ≡ p.height * g
    → l.columns ≡ f → l.rows ≡ g → l.across ≡ f → l.down ≡ g → l.before ≡ 0 → l.above ≡ 0
    → Frames l (p.left * f + p.width * f) (p.top * g + p.height * g) p (λ u q. u * f + q) (λ v r. v * g + r)
frames_boxes l f g p f₁ f₂ g₁ g₂ el et ew eh c₀ c₁ c₂ c₃ c₄ c₅ = record {
  inside = record { across = omega arith; down = omega arith };
  columns = λ i q li lq.
      let m : i * l.across ≡ i * f = ap (λ z. i * z) c₂ in
      omega (arith, box_column p.left i p.width f q l.at.width li (omega arith) ew);
  rows = λ j r lj lr.
      let m : j * l.down ≡ j * g = ap (λ z. j * z) c₃ in
      omega (arith, box_column p.top j p.height g r l.at.height lj (omega arith) eh);
  fair = let few : Few l = record {
    some = omega arith;
    any = omega arith;
    few = omega (arith, ap (λ z. z * l.rows) c₀, ap (λ z. f * z) c₁, mul-le f g 64 64 f₂ g₂);
    small = (omega arith, omega arith, omega arith, omega arith);
  } in record {
    few = few;
    lone = λ a b.
        let m : p.width * f ≡ 1 * f = ap (λ z. z * f) a in
        let n : p.height * g ≡ 1 * g = ap (λ z. z * g) b in
        record { few = few; wide = omega arith; high = omega arith };
  };
}
