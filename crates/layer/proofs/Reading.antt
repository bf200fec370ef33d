-- Places of a region by column and row.
use Rattle.std.proofs.Common.{◌≡◌, ℕ, ◌+◌, ◌-◌, ◌*◌, ◌/◌, ◌%◌, ◌<◌, ◌≤◌, min, ap, ◌∙◌, arith}
use Rattle.std.proofs.lemmas.Nat.{div-mul-add, mod-mul-add, mul-add-lt}
use Rattle.picture.specs.Prepare.{area}
use Rattle.layer.specs.declared.aim.Lens.{Lens}
use Rattle.layer.specs.Aims.{lens_column, lens_row, lens_spot}

min_below : (a n : ℕ) → 1 ≤ n → min a (n - 1) < n
min_below a n h = omega arith

pub column_inside : (l : Lens) (i q : ℕ) → lens_column l i q < l.at.width
column_inside l i q = min_below _ l.at.width l.at.wide

pub row_inside : (l : Lens) (j r : ℕ) → lens_row l j r < l.at.height
row_inside l j r = min_below _ l.at.height l.at.high

pub index-inside : (l : Lens) (i j q r : ℕ) → lens_row l j r * l.at.width + lens_column l i q < area l.at
index-inside l i j q r = mul-add-lt (lens_row l j r) l.at.width (lens_column l i q) l.at.height (row_inside l j r) (column_inside l i q)

pub spot-inside : (l : Lens) (i j k : ℕ) → lens_spot l i j k < area l.at
spot-inside l i j k = index-inside l i j (k % l.columns) (k / l.columns)

-- the place at column q and row r of a window
pub spot_at : (l : Lens) (i j q r : ℕ) → q < l.columns → lens_spot l i j (r * l.columns + q) ≡ lens_row l j r * l.at.width + lens_column l i q
spot_at l i j q r h =
    ap (λ d. lens_row l j d * l.at.width + lens_column l i ((r * l.columns + q) % l.columns)) (div-mul-add r l.columns q h)
    ∙ ap (λ m. lens_row l j r * l.at.width + lens_column l i m) (mod-mul-add r l.columns q h)
