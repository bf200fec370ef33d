-- A step over a picture within its limits is within them.
use Rattle.std.specs.Prelude.{◌≡◌, ℕ, ◌+◌, ◌*◌, ◌/◌, ◌%◌, ◌<◌, ◌≤◌, Bool, true, false, cond, ◌&&◌, ℤ, pos, negsuc, ◌-ℤ◌, Some, None, Option}
use Rattle.std.proofs.Common.{ap, div-le_self, mul_comm, arith, rules}
use Rattle.std.proofs.lemmas.Nat.{div_below, le-div, mod_below}
use Rattle.pixel.specs.Ops.{Ops, Under}
use Rattle.picture.specs.declared.fault.Fault.{Fault}
use Rattle.picture.specs.declared.step.Ground as declared
use Rattle.picture.specs.declared.step.Ground.TheVariants as grounds
use Rattle.picture.specs.declared.step.Axis.TheVariants.{Horizontal, Vertical}
use Rattle.picture.specs.declared.step.Turn.TheVariants.{D90, D270}
use Rattle.picture.specs.declared.step.Step.{Step}
use Rattle.picture.specs.declared.step.Step.TheVariants.{Same, Crop, Embed, Flip, Rot, Shrink, Conv}
use Rattle.picture.specs.Compose.{Composed, layered, stepped, taken, unless}
use Rattle.picture.specs.Images.{Bounded, Dim, Image, Model, Sized}
use Rattle.picture.specs.Limits.{largest}
use Rattle.picture.specs.Region.{needed}
use Rattle.picture.specs.Steps.{Formula, black, white, copied, mixed, allowed, among, fitting, formula, ground_of, grounded, height_of, nearest, width_of}
use Rattle.layer.specs.Stepping.{boxes_inside}

nearest-inside : (z : ℤ) (n : ℕ) → 1 ≤ n → nearest z n < n
nearest-inside (pos a) n h = omega arith
nearest-inside (negsuc a) n h = omega arith

-- the place is one of a picture of W columns and H rows
abbrev pub In : ℕ → ℕ → ℕ → ℕ → Type 0
In W H x y = (x < W) × (y < H)

embedded-inside : (g : declared.Ground) (W H : ℕ) (x y : ℤ) → 1 ≤ W → 1 ≤ H → (b : Bool) → needed (cond b (copied (nearest x W) (nearest y H)) (grounded g W H x y)) (In W H)
embedded-inside g W H x y w h true = (nearest-inside x W w, nearest-inside y H h)
embedded-inside grounds.Black W H x y w h false = tt
embedded-inside grounds.White W H x y w h false = tt
embedded-inside grounds.Copy W H x y w h false = (nearest-inside x W w, nearest-inside y H h)

one_more : (u w : ℕ) → u < w → u + 1 ≤ w
one_more u w h = omega arith

box_inside : (u f g W v H k : ℕ) → 1 ≤ f → u < W / f → v < H / g → k < f * g → In W H (u * f + k % f) (v * g + k / f)
box_inside u f g W v H k one x y lt =
    let column = mod_below k f one in
    let row = div_below k f g one (omega (arith, mul_comm f g)) in
    (omega (arith, boxes_inside u 1 f W (one_more u (W / f) x)), omega (arith, boxes_inside v 1 g H (one_more v (H / g) y)))

-- a formula names only places of the picture below
pub names_inside : (s : Step) (W H u v : ℕ) → 1 ≤ W → 1 ≤ H → allowed s ≡ true → fitting s W H ≡ true → u < width_of s W H → v < height_of s W H → needed (formula s W H u v) (In W H)
names_inside Same W H u v w h a f x y = (x, y)
names_inside (Crop l t c r) W H u v w h a f x y = let i : l + c ≤ W = search rules in let j : t + r ≤ H = search rules in (omega arith, omega arith)
names_inside (Embed l t c r g) W H u v w h a f x y = embedded-inside (ground_of g) W H (pos u -ℤ l) (pos v -ℤ t) w h (among (pos u -ℤ l) W && among (pos v -ℤ t) H)
names_inside (Flip Horizontal) W H u v w h a f x y = (omega arith, y)
names_inside (Flip Vertical) W H u v w h a f x y = (x, omega arith)
names_inside (Rot D90) W H u v w h a f x y = (y, omega arith)
names_inside (Rot D270) W H u v w h a f x y = (omega arith, x)
names_inside (Shrink c r) W H u v w h a f x y = let one : 1 ≤ c = search rules in λ k lt. box_inside u c r W v H k one x y lt
names_inside (Conv m) W H u v w h a f x y = λ k lt. (omega arith, omega arith)

-- the sides of a step are within their limits
pub record Sides (w h : ℕ) : Type 0 where
  pub wide : 1 ≤ w
  pub high : 1 ≤ h
  pub across : w ≤ largest
  pub down : h ≤ largest

shrunk : (n f : ℕ) → 1 ≤ f → f ≤ n → n ≤ largest → (1 ≤ n / f) × (n / f ≤ largest)
shrunk n f one le lim = (le-div 1 n f one (omega arith), omega (arith, div-le_self n f))

pub sides : (s : Step) (W H : ℕ) → Sides W H → allowed s ≡ true → fitting s W H ≡ true → Sides (width_of s W H) (height_of s W H)
sides Same W H z a f = z
sides (Crop l t c r) W H z a f = record { wide = search rules; high = search rules; across = search rules; down = search rules }
sides (Embed l t c r g) W H z a f = record { wide = search rules; high = search rules; across = search rules; down = search rules }
sides (Flip x) W H z a f = z
sides (Rot x) W H z a f = record { wide = z.high; high = z.wide; across = z.down; down = z.across }
sides (Shrink c r) W H z a f =
    let c₁ : 1 ≤ c = search rules in
    let r₁ : 1 ≤ r = search rules in
    let c₂ : c ≤ W = search rules in
    let r₂ : r ≤ H = search rules in
    let p = shrunk W c c₁ c₂ z.across in
    let q = shrunk H r r₁ r₂ z.down in
    record { wide = p.0; high = q.0; across = p.1; down = q.1 }
sides (Conv m) W H z a f = z

module _ {K S : Type 0} (o : Ops K S) where
  pub sized_step : (s : Step) (b : Image K) → Sized b → allowed s ≡ true → fitting s b.width b.height ≡ true → Sized (stepped o s b)
  sized_step s b z a f =
      let q = sides s b.width b.height (record { wide = z.wide; high = z.high; across = z.across; down = z.down }) a f in
      record { wide = q.wide; high = q.high; bright = z.bright; across = q.across; down = q.down; fits = z.fits }

  dim_unless : (m : ℕ) (f : Option Fault) (p : K) → Under m (o.samples p) → Dim o m (unless f p)
  dim_unless m None p h = h
  dim_unless m (Some f) p h = tt

  dim_taken : (b : Image K) → Bounded o b → ((m : ℕ) → Under m (o.samples o.black)) → ((m : ℕ) → Under m (o.samples (o.white m))) → ((s : S) (k : ℕ) (d : ℤ) (m : ℕ) → Under m (o.samples (o.finish s k d m)))
      → (φ : Formula) → needed φ (In b.width b.height) → Dim o b.maxval (taken o b.maxval b.at φ)
  dim_taken b h blacks whites limits black n = blacks b.maxval
  dim_taken b h blacks whites limits white n = whites b.maxval
  dim_taken b h blacks whites limits (copied x y) n = h x y n.0 n.1
  dim_taken b h blacks whites limits (mixed k tap scale offset) n = dim_unless b.maxval _ _ (limits _ scale offset b.maxval)

  pub bounded_step : (s : Step) (b : Image K) → Sized b → Bounded o b → ((m : ℕ) → Under m (o.samples o.black)) → ((m : ℕ) → Under m (o.samples (o.white m)))
      → ((s : S) (k : ℕ) (d : ℤ) (m : ℕ) → Under m (o.samples (o.finish s k d m))) → allowed s ≡ true → fitting s b.width b.height ≡ true → Bounded o (stepped o s b)
  bounded_step s b z h blacks whites limits a f u v x y = dim_taken b h blacks whites limits _ (names_inside s b.width b.height u v z.wide z.high a f x y)

  pub composed-step : (s : Step) (m : Model K) → Composed o m → Composed o (layered o s m)
  composed-step s m e = ap (stepped o s) e
