-- When a way to make a part makes what the formulas of its places ask for.
use Rattle.std.specs.Prelude.{◌≡◌, ℕ, ◌+◌, ◌-◌, ◌*◌, ◌/◌, ◌%◌, ◌<◌, ◌≤◌, min, true, List, length, ℤ, pos, is_some, slice_index, slice_index_or, Some, None, Option}
use Rattle.picture.specs.Prepare.{area}
use Rattle.pixel.specs.Ops.{Ops}
use Rattle.picture.specs.declared.rect.Rect.{Rect}
use Rattle.picture.specs.declared.step.Axis.{Axis}
use Rattle.picture.specs.declared.step.Axis.TheVariants.{Horizontal, Vertical}
use Rattle.picture.specs.declared.step.Turn.{Turn}
use Rattle.picture.specs.declared.step.Turn.TheVariants.{D90, D270}
use Rattle.picture.specs.declared.step.Mask.{Mask}
use Rattle.picture.specs.Region.{Within}
use Rattle.picture.specs.Steps.{Tap, Formula, black, white, copied, mixed, kernel}
use Rattle.layer.specs.declared.aim.Carry.{Carry}
use Rattle.layer.specs.declared.aim.Lens.{Lens}
use Rattle.layer.specs.declared.aim.Aim.{Aim}
use Rattle.layer.specs.declared.aim.Aim.TheVariants as aim
use Rattle.layer.specs.Sums.{or_black}

-- where (x, y) stands in the reading order of a rectangle
abbrev pub spot : Rect → ℕ → ℕ → ℕ
spot r x y = (y - r.top) * r.width + (x - r.left)

-- the region lies inside a picture of W columns and H rows
pub record Inside (at : Rect) (W H : ℕ) : Type 0 where
  pub across : at.left + at.width ≤ W
  pub down : at.top + at.height ≤ H

-- where a walk stands at (i, j) of the part
abbrev pub walked : Carry → ℕ → ℕ → ℕ
walked c i j = c.base + j * c.down - j * c.up + i * c.right - i * c.left

-- the walk stands at (x, y)
pub record Stops (c : Carry) (i j x y : ℕ) : Type 0 where
  pub within : Within c.at x y
  pub risen : j * c.up ≤ c.base + j * c.down
  pub moved : i * c.left ≤ c.base + j * c.down - j * c.up + i * c.right
  pub there : walked c i j ≡ spot c.at x y

-- the strides are small
pub record Steady (c : Carry) : Type 0 where
  pub base : c.base ≤ 65535 * 65535
  pub right : c.right ≤ 65535
  pub left : c.left ≤ 65535
  pub down : c.down ≤ 65535
  pub up : c.up ≤ 65535

abbrev pub Carried : Carry → ℕ → ℕ → Formula → Type 0
Carried c i j black = ⊥
Carried c i j white = ⊥
Carried c i j (copied x y) = Stops c i j x y
Carried c i j (mixed n tap scale offset) = ⊥

-- column q and row r of the window at (i, j), counted in the region and limited to it
abbrev pub lens_column : Lens → ℕ → ℕ → ℕ
lens_column l i q = min (i * l.across + q - l.before) (l.at.width - 1)

abbrev pub lens_row : Lens → ℕ → ℕ → ℕ
lens_row l j r = min (j * l.down + r - l.above) (l.at.height - 1)

-- where the k-th place of the window stands in the region
abbrev pub lens_spot : Lens → ℕ → ℕ → ℕ → ℕ
lens_spot l i j k = lens_row l j (k / l.columns) * l.at.width + lens_column l i (k % l.columns)

-- the taps are those of the window, with these weights
pub record Mixes (l : Lens) (w : ℕ → ℤ) (s : ℕ) (o : ℤ) (i j n : ℕ) (tap : ℕ → Tap) (scale : ℕ) (offset : ℤ) : Type 0 where
  pub all : n ≡ l.columns * l.rows
  pub scaled : scale ≡ s
  pub moved : offset ≡ o
  pub columns : (k : ℕ) → k < n → (tap k).column ≡ l.at.left + lens_column l i (k % l.columns)
  pub rows : (k : ℕ) → k < n → (tap k).row ≡ l.at.top + lens_row l j (k / l.columns)
  pub weights : (k : ℕ) → k < n → (tap k).weight ≡ w k

abbrev pub Mixed : Lens → (ℕ → ℤ) → ℕ → ℤ → ℕ → ℕ → Formula → Type 0
Mixed l w s o i j black = ⊥
Mixed l w s o i j white = ⊥
Mixed l w s o i j (copied x y) = ⊥
Mixed l w s o i j (mixed n tap scale offset) = Mixes l w s o i j n tap scale offset

-- a window has places, and few enough for a sum
pub record Few (l : Lens) : Type 0 where
  pub some : 1 ≤ l.columns
  pub any : 1 ≤ l.rows
  pub few : l.columns * l.rows ≤ 4096
  pub small : (l.columns ≤ 64) × (l.rows ≤ 64) × (l.across ≤ 64) × (l.down ≤ 64)

-- the first window covers the region
pub record Lone (l : Lens) : Type 0 where
  pub few : Few l
  pub wide : l.at.width + l.before ≤ l.columns
  pub high : l.at.height + l.above ≤ l.rows

pub record Fair (l : Lens) (p : Rect) : Type 0 where
  pub few : Few l
  pub lone : p.width ≡ 1 → p.height ≡ 1 → Lone l

-- each place (u, v) of the part shows column X u v and row Y u v below
pub record Copies (c : Carry) (W H : ℕ) (p : Rect) (X Y : ℕ → ℕ → ℕ) : Type 0 where
  pub inside : Inside c.at W H
  pub each : (i j : ℕ) → i < p.width → j < p.height → Stops c i j (X (p.left + i) (p.top + j)) (Y (p.left + i) (p.top + j))
  pub wide : p.width ≡ 1 → p.height ≡ 1 → area c.at ≡ 1
  pub steady : Steady c

abbrev pub Flips : Axis → Carry → ℕ → ℕ → Rect → Type 0
Flips Horizontal c W H p = Copies c W H p (λ u v. W - 1 - u) (λ u v. v)
Flips Vertical c W H p = Copies c W H p (λ u v. u) (λ u v. H - 1 - v)

abbrev pub Turns : Turn → Carry → ℕ → ℕ → Rect → Type 0
Turns D90 c W H p = Copies c W H p (λ u v. v) (λ u v. H - 1 - u)
Turns D270 c W H p = Copies c W H p (λ u v. W - 1 - v) (λ u v. u)

-- each place of the part has its window
pub record Frames (l : Lens) (W H : ℕ) (p : Rect) (X Y : ℕ → ℕ → ℕ) : Type 0 where
  pub inside : Inside l.at W H
  pub columns : (i q : ℕ) → i < p.width → q < l.columns → X (p.left + i) q ≡ l.at.left + lens_column l i q
  pub rows : (j r : ℕ) → j < p.height → r < l.rows → Y (p.top + j) r ≡ l.at.top + lens_row l j r
  pub fair : Fair l p

abbrev pub Boxes : Lens → ℕ → ℕ → Rect → Type 0
Boxes l f g p =
    Frames l (p.left * f + p.width * f) (p.top * g + p.height * g) p (λ u q. u * f + q) (λ v r. v * g + r) × (l.columns ≡ f) × (l.rows ≡ g)

abbrev pub Windows : Lens → ℕ → ℕ → Rect → Type 0
Windows l W H p = Frames l W H p (λ u q. min (u + q - 1) (W - 1)) (λ v r. min (v + r - 1) (H - 1)) × (l.columns ≡ 3) × (l.rows ≡ 3)

-- P of each place of the part: its column and row in the part, and its formula
abbrev pub Each : (ℕ → ℕ → Formula) → Rect → (ℕ → ℕ → Formula → Type 0) → Type 0
Each φ p P = (i j : ℕ) → i < p.width → j < p.height → P i j (φ (p.left + i) (p.top + j))

-- a black or white ground, which needs nothing of below
abbrev pub Ground : Formula → Type 0
Ground black = Unit {0}
Ground white = Unit {0}
Ground (copied x y) = ⊥
Ground (mixed n tap scale offset) = ⊥

-- nothing of below is needed
abbrev pub Needless : (ℕ → ℕ → Formula) → Rect → Type 0
Needless φ p = Each φ p (λ i j. Ground)

abbrev pub ones : ℕ → ℤ
ones k = pos 1

abbrev pub weights_of : Mask → ℕ → ℤ
weights_of m k = slice_index_or (kernel m).coefficients k (pos 0)

-- each place of the part is made so, over a picture of W columns and H rows
abbrev pub Aims : Option Aim → (ℕ → ℕ → Formula) → ℕ → ℕ → Rect → Type 0
Aims (Some aim.Black) φ W H p = Each φ p (λ i j f. f ≡ black)
Aims (Some aim.White) φ W H p = Each φ p (λ i j f. f ≡ white)
Aims (Some (aim.Copy c)) φ W H p = Inside c.at W H × Each φ p (Carried c) × (p.width ≡ 1 → p.height ≡ 1 → area c.at ≡ 1) × Steady c
Aims (Some (aim.Mean l)) φ W H p = Inside l.at W H × Each φ p (Mixed l ones (l.columns * l.rows) (pos 0)) × Fair l p
Aims (Some (aim.Masked l m)) φ W H p = Inside l.at W H × Each φ p (Mixed l (weights_of m) (kernel m).scale (kernel m).offset) × Fair l p
-- a single place lies across no edge, and a part that does needs something of below
Aims None φ W H p = (3 ≤ p.width + p.height) × (Needless φ p → ⊥)

module _ {K S : Type 0} (o : Ops K S) where
  -- the pixel of the k-th place of a window, by the codes of the region
  abbrev pub lens_pixel : List ℕ → Lens → ℕ → ℕ → ℕ → K
  lens_pixel codes l i j k = or_black o.black (o.decode (slice_index codes (lens_spot l i j k)))

  -- the codes of the region are those of pixels
  pub record Readable (codes : List ℕ) (l : Lens) (i j : ℕ) : Type 0 where
    pub few : Few l
    pub near : (i ≤ 65535) × (j ≤ 65535)
    pub room : area l.at ≤ length codes
    pub pixels : (k : ℕ) → k < area l.at → is_some (o.decode (slice_index codes k)) ≡ true
