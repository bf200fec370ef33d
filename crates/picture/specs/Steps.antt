-- The steps: their sizes, and what of the picture below stands at a place.
use Rattle.std.specs.Prelude.{ℕ, ◌+◌, ◌-◌, ◌*◌, ◌/◌, ◌%◌, min, Bool, true, false, cond, ◌&&◌, List, [], ◌∷◌, ℤ, pos, negsuc, ◌-ℤ◌, Some, None, Option, nat_le, nat_lt, slice_index_or, unsigned_abs}
use Rattle.pixel.specs.Scaling.{limited}
use Rattle.picture.specs.declared.step.Ground.{Ground}
use Rattle.picture.specs.declared.step.Ground.TheVariants as grounds
use Rattle.picture.specs.declared.step.Axis.TheVariants.{Horizontal, Vertical}
use Rattle.picture.specs.declared.step.Turn.TheVariants.{D90, D270}
use Rattle.picture.specs.declared.step.Mask.{Mask}
use Rattle.picture.specs.declared.step.Mask.TheVariants.{Blur, Sharpen, Relief}
use Rattle.picture.specs.declared.step.Step.{Step}
use Rattle.picture.specs.declared.step.Step.TheVariants.{Same, Crop, Embed, Flip, Rot, Shrink, Conv}
use Rattle.picture.specs.Limits.{largest}

-- one place below, and its weight in a sum
pub record Tap : Type 0 where
  pub column : ℕ
  pub row : ℕ
  pub weight : ℤ

-- what stands at a place, in terms of the picture below
pub data Formula : Type 0 where
  black : Formula
  white : Formula
  -- what stands at this column and row below
  copied : ℕ → ℕ → Formula
  -- a weighted sum: how many taps, the taps in the reading order of below, the scale and the offset
  mixed : ℕ → (ℕ → Tap) → ℕ → ℤ → Formula

-- a 3 by 3 mask: its coefficients by rows, scale and offset
pub record Kernel : Type 0 where
  pub coefficients : List ℤ
  pub scale : ℕ
  pub offset : ℤ

abbrev pub kernel : Mask → Kernel
kernel Blur = record {
  coefficients =
      pos 1 ∷ (pos 1 ∷ (pos 1 ∷
      (pos 1 ∷ (pos 1 ∷ (pos 1 ∷
      (pos 1 ∷ (pos 1 ∷ (pos 1 ∷ []))))))));
  scale = 9;
  offset = pos 0;
}
kernel Sharpen = record {
  coefficients =
      negsuc 0 ∷ (negsuc 0 ∷ (negsuc 0 ∷
      (negsuc 0 ∷ (pos 16 ∷ (negsuc 0 ∷
      (negsuc 0 ∷ (negsuc 0 ∷ (negsuc 0 ∷ []))))))));
  scale = 8;
  offset = pos 0;
}
kernel Relief = record {
  coefficients =
      negsuc 0 ∷ (pos 0 ∷ (pos 0 ∷
      (pos 0 ∷ (pos 0 ∷ (pos 0 ∷
      (pos 0 ∷ (pos 0 ∷ (pos 1 ∷ []))))))));
  scale = 2;
  offset = pos 128;
}

-- an embedding that names no ground has this one
abbrev pub ground_of : Option Ground → Ground
ground_of None = grounds.Black
ground_of (Some g) = g

-- z is one of the n columns or rows
abbrev pub among : ℤ → ℕ → Bool
among (pos a) n = nat_lt a n
among (negsuc a) n = false

-- the one of the n columns or rows that is nearest to z
abbrev pub nearest : ℤ → ℕ → ℕ
nearest z n = limited z (n - 1)

abbrev pub grounded : Ground → ℕ → ℕ → ℤ → ℤ → Formula
grounded grounds.Black W H x y = black
grounded grounds.White W H x y = white
grounded grounds.Copy W H x y = copied (nearest x W) (nearest y H)

-- what an embedding shows of column x and row y below, which may lie outside
abbrev pub embedded : Ground → ℕ → ℕ → ℤ → ℤ → Formula
embedded g W H x y = cond (among x W && among y H) (copied (nearest x W) (nearest y H)) (grounded g W H x y)

-- a box f wide whose first place is (x, y)
abbrev pub box_tap : ℕ → ℕ → ℕ → ℕ → Tap
box_tap f x y k = record { column = x + k % f; row = y + k / f; weight = pos 1 }

-- the mask's column i and row j weight the place (u + i - 1, v + j - 1), limited to the picture
-- (a subtraction here stops at 0, which is the limit on the left and at the top)
abbrev pub mask_tap : List ℤ → ℕ → ℕ → ℕ → ℕ → ℕ → Tap
mask_tap cs W H u v k = record { column = min (u + k % 3 - 1) (W - 1); row = min (v + k / 3 - 1) (H - 1); weight = slice_index_or cs k (pos 0) }

-- at (u, v), over a picture of W columns and H rows
abbrev pub formula : Step → ℕ → ℕ → ℕ → ℕ → Formula
formula Same W H u v = copied u v
formula (Crop l t w h) W H u v = copied (u + l) (v + t)
formula (Embed x y w h g) W H u v = embedded (ground_of g) W H (pos u -ℤ x) (pos v -ℤ y)
formula (Flip Horizontal) W H u v = copied (W - 1 - u) v
formula (Flip Vertical) W H u v = copied u (H - 1 - v)
formula (Rot D90) W H u v = copied v (H - 1 - u)
formula (Rot D270) W H u v = copied (W - 1 - v) u
formula (Shrink f g) W H u v = mixed (f * g) (box_tap f (u * f) (v * g)) (f * g) (pos 0)
formula (Conv m) W H u v = mixed 9 (mask_tap (kernel m).coefficients W H u v) (kernel m).scale (kernel m).offset

abbrev pub width_of : Step → ℕ → ℕ → ℕ
width_of Same W H = W
width_of (Crop l t w h) W H = w
width_of (Embed x y w h g) W H = w
width_of (Flip a) W H = W
width_of (Rot d) W H = H
width_of (Shrink f g) W H = W / f
width_of (Conv m) W H = W

abbrev pub height_of : Step → ℕ → ℕ → ℕ
height_of Same W H = H
height_of (Crop l t w h) W H = h
height_of (Embed x y w h g) W H = h
height_of (Flip a) W H = H
height_of (Rot d) W H = W
height_of (Shrink f g) W H = H / g
height_of (Conv m) W H = H

abbrev pub side : ℕ → Bool
side n = nat_le 1 n && nat_le n largest

abbrev pub factor : ℕ → Bool
factor n = nat_le 1 n && nat_le n 64

-- the step's own numbers are within their limits
abbrev pub allowed : Step → Bool
allowed Same = true
allowed (Crop l t w h) = nat_le l largest && (nat_le t largest && (side w && side h))
allowed (Embed x y w h g) = nat_le (unsigned_abs x) largest && (nat_le (unsigned_abs y) largest && (side w && side h))
allowed (Flip a) = true
allowed (Rot d) = true
allowed (Shrink f g) = factor f && factor g
allowed (Conv m) = true

-- the step can stand over a picture of W columns and H rows
abbrev pub fitting : Step → ℕ → ℕ → Bool
fitting Same W H = true
fitting (Crop l t w h) W H = nat_le (l + w) W && nat_le (t + h) H
fitting (Embed x y w h g) W H = true
fitting (Flip a) W H = true
fitting (Rot d) W H = true
fitting (Shrink f g) W H = nat_le f W && nat_le g H
fitting (Conv m) W H = true
