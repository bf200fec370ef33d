-- Behind the end of a store every pixel misses its first byte.
use Rattle.std.proofs.Common.{◌≡◌, ℕ, ◌+◌, ◌-◌, ◌*◌, ◌/◌, ◌%◌, ◌<◌, ◌≤◌, Err, sym, refl, ap, ◌∙◌, ⊎_elim, mul-le-mul_right, mul_comm, add-mul, one-mul, arith}
use native.Mathlib.Nat.{div-add-mod}
use Rattle.std.proofs.lemmas.Nat.{mod_below}
use Rattle.std.proofs.lemmas.Bool.{cases_lt, cond-true, cond-false, le-leb, lt-leb}
use Rattle.std.proofs.lemmas.Grind.{div_ceil_times}
use Rattle.std.specs.Int.{div_ceil}
use Rattle.std.specs.Prelude.{nat_le}
use Rattle.pixel.specs.Ops.{Ops}
use Rattle.store.specs.Cells.{Cell, missing}
use Rattle.store.specs.Reads.{answer, value}
use Rattle.store.specs.declared.lack.Lack.TheVariants as lack
use Rattle.store.proofs.Answering.{answer-none, answer_stop}
use Rattle.picture.specs.declared.fault.Cause.TheVariants.{Missing}
use Rattle.picture.specs.Places.{hole}
use Rattle.source.specs.declared.raster.Raster.{Raster}
use Rattle.source.specs.Raster.{wide, samples_of}
use Rattle.source.specs.Files.{fault_at, lacking, pixel_bytes, raster_image, seen}
use Rattle.source.specs.Extent.{Silent, LostBehind, reached}

-- one number rounds a quotient up
one_up : (c step x y : ℕ) → c ≤ x * step → y * step < c + step → x < y → ⊥
one_up c step x y h l d = omega (arith, mul-le-mul_right step d, add-mul x 1 step, one-mul step)

same_up : (c step x y : ℕ) → c ≤ x * step → x * step < c + step → c ≤ y * step → y * step < c + step → x ≡ y
same_up c step x y a b d e =
    ⊎_elim (λ l. absurd (one_up c step x y a e l)) (λ h. ⊎_elim (λ l. absurd (one_up c step y x d b l)) (λ i. omega arith) (cases_lt y x)) (cases_lt x y)

-- the pixels of so many bytes that reach the end, rounded up
pub reached_up : (start end step : ℕ) → 1 ≤ step → div_ceil (end - start) step ≡ reached start end step
reached_up start end step h =
    let u = div_ceil_times (end - start) step h in
    ⊎_elim
    (λ l. let q : (end - start - 1) % step < step = mod_below (end - start - 1) step (omega arith) in
    same_up (end - start) step (div_ceil (end - start) step) ((end - start - 1) / step + 1) u.0 u.1
    (omega (arith, div-add-mod (end - start - 1) step, mul_comm step ((end - start - 1) / step), add-mul ((end - start - 1) / step) 1 step, one-mul step))
    (omega (arith, div-add-mod (end - start - 1) step, mul_comm step ((end - start - 1) / step), add-mul ((end - start - 1) / step) 1 step, one-mul step))
    ∙ sym (cond-false (nat_le end start) 0 _ (lt-leb end start l)))
    (λ l. same_up (end - start) step (div_ceil (end - start) step) 0 u.0 u.1 (omega arith) (omega arith) ∙ sym (cond-true (nat_le end start) 0 _ (le-leb end start l)))
    (cases_lt start end)

-- a pixel whose first byte is missing
pub lost_pixel : {K S : Type 0} (o : Ops K S) (at : ℕ → Cell) (r : Raster) (x y : ℕ) → 1 ≤ pixel_bytes o r.size.maxval
    → at (r.start + (y * r.size.width + x) * pixel_bytes o r.size.maxval) ≡ missing → (raster_image o at r).at x y ≡ hole (fault_at r.source x y Missing)
lost_pixel o at r x y h e =
    let m = r.size.maxval in
    let p = r.start + (y * r.size.width + x) * pixel_bytes o m in
    let z : p + 0 ≡ p = omega arith in
    let a : answer at p (pixel_bytes o m) ≡ Err (lack.Missing (p + 0)) = answer_stop at p 0 (pixel_bytes o m) missing (lack.Missing (p + 0)) (omega arith) (answer-none at p) (ap at z ∙ e) (λ q. refl) in
    ap (λ w. seen o (lacking w) m (samples_of (wide m) (λ j. value (at (p + j))) o.depth) (fault_at r.source x y)) a

pub lost-behind : {K S : Type 0} (o : Ops K S) (at : ℕ → Cell) (r : Raster) (end n : ℕ) → 1 ≤ pixel_bytes o r.size.maxval
    → end - r.start ≤ n * pixel_bytes o r.size.maxval → Silent at end → LostBehind o at r n
lost-behind o at r end n h e s x y l =
    lost_pixel o at r x y h (s _ (omega (arith, e, mul-le-mul_right (pixel_bytes o r.size.maxval) l)))
