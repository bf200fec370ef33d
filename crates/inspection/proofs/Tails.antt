-- A survey of places that all miss their first byte.
use Rattle.std.proofs.Common.{◌≡◌, ℕ, zero, suc, ◌+◌, ◌-◌, ◌*◌, ◌/◌, ◌%◌, ◌<◌, ◌≤◌, min, true, cond, leb, Some, None, Option, sym, refl, ap, ◌∙◌, add-zero, mul_comm, div-le_self, arith}
use native.Mathlib.Nat.{div-add-mod}
use Rattle.std.proofs.lemmas.Bool.Decides.{nat_tests}
use Rattle.std.proofs.lemmas.Bool.{le-leb}
use Rattle.pixel.specs.Ops.{Ops}
use Rattle.store.specs.Cells.{Cell}
use Rattle.picture.specs.declared.fault.Cause.TheVariants.{Missing}
use Rattle.picture.specs.declared.fault.Fault.{Fault}
use Rattle.picture.specs.Places.{Place, hole, or_else}
use Rattle.source.specs.declared.raster.Raster.{Raster}
use Rattle.source.specs.declared.header.Header.{Header}
use Rattle.source.specs.Files.{fault_at, pixel_at, pixel_bytes, raster_image}
use Rattle.source.specs.Opening.{headed}
use Rattle.picture.specs.Images.{Image}
use Rattle.source.specs.Extent.{LostBehind, reached}
use Rattle.survey.specs.declared.findings.Survey.{Survey}
use Rattle.survey.specs.declared.findings.Range.{Range}
use Rattle.survey.specs.Surveys.{counted, faulted, fresh, noted, onward, reading, surveyed}
use Rattle.survey.proofs.Onward.{onward-append, or_none}
use Rattle.inspection.specs.Reports.{lost}

abbrev made : ℕ → Option Range → ℕ → ℕ → ℕ → ℕ → Option Fault → Survey
made p r m u a n f = record { pixels = p; range = r; missing = m; unread = u; above = a; no_pixel = n; first = f }

or_twice : (x : Option Fault) (f g : Fault) → or_else (or_else x (Some f)) (Some g) ≡ or_else x (Some f)
or_twice None f g = refl
or_twice (Some e) f g = refl

lost-none : (s : Survey) (f : Fault) → s ≡ lost s 0 f
lost-none s f =
    ap (λ m. made s.pixels s.range m s.unread s.above s.no_pixel s.first) (sym (add-zero s.missing))
    ∙ ap (made s.pixels s.range (s.missing + 0) s.unread s.above s.no_pixel) (sym (or_none s.first))

-- one more
lost_more : (s : Survey) (n : ℕ) (f e : Fault) → e.cause ≡ Missing → (n ≡ 0 → e ≡ f) → faulted (Some e) (counted Missing (lost s n f)) ≡ lost s (suc n) f
lost_more s zero f e c z =
    let m : s.missing + 0 + 1 ≡ s.missing + 1 = omega arith in
    ap (λ x. made s.pixels s.range x s.unread s.above s.no_pixel (or_else (or_else s.first None) (Some e))) m
    ∙ ap (λ x. made s.pixels s.range (s.missing + 1) s.unread s.above s.no_pixel (or_else x (Some e))) (or_none s.first)
    ∙ ap (λ x. made s.pixels s.range (s.missing + 1) s.unread s.above s.no_pixel (or_else s.first (Some x))) (z refl)
lost_more s (suc n) f e c z =
    let m : s.missing + suc n + 1 ≡ s.missing + suc (suc n) = omega arith in
    let a : leb 1 (suc n) ≡ true = le-leb 1 (suc n) (omega arith) in
    let b : leb 1 (suc (suc n)) ≡ true = le-leb 1 (suc (suc n)) (omega arith) in
    ap (λ x. made s.pixels s.range (s.missing + suc n + 1) s.unread s.above s.no_pixel (or_else (or_else s.first (cond x (Some f) None)) (Some e))) a
    ∙ ap (λ x. made s.pixels s.range x s.unread s.above s.no_pixel (or_else (or_else s.first (Some f)) (Some e))) m
    ∙ ap (made s.pixels s.range (s.missing + suc (suc n)) s.unread s.above s.no_pixel) (or_twice s.first f e)
    ∙ ap (λ x. made s.pixels s.range (s.missing + suc (suc n)) s.unread s.above s.no_pixel (or_else s.first (cond x (Some f) None))) (sym b)

module _ {K S : Type 0} (o : Ops K S) where
  -- n places that all are holes by a missing byte
  all_lost : (s : Survey) (f : ℕ → Place K) (src : ℕ) (x y : ℕ → ℕ) (n : ℕ) → ((k : ℕ) → k < n → f k ≡ hole (fault_at src (x k) (y k) Missing))
      → onward o s f n ≡ lost s n (fault_at src (x 0) (y 0) Missing)
  all_lost s f src x y zero h = lost-none s (fault_at src (x 0) (y 0) Missing)
  all_lost s f src x y (suc n) h =
      ap (noted o (onward o s f n)) (h n (omega arith))
      ∙ ap (λ t. faulted (Some (fault_at src (x n) (y n) Missing)) (counted Missing t)) (all_lost s f src x y n (λ k l. h k (omega arith)))
      ∙ lost_more s n (fault_at src (x 0) (y 0) Missing) (fault_at src (x n) (y n) Missing) refl (λ e. ap (λ k. fault_at src (x k) (y k) Missing) e)

  -- the places of a file behind those that its store reaches
  pub tail_lost : (at : ℕ → Cell) (r : Raster) (reach places total : ℕ) → LostBehind o at r reach → total ≡ r.size.width * r.size.height → places ≡ min reach total
      → lost (surveyed o (raster_image o at r) places) (total - places) (fault_at r.source (places % r.size.width) (places / r.size.width) Missing) ≡ surveyed o (raster_image o at r) total
  tail_lost at r reach places total h t p =
      let w = r.size.width in
      let i = raster_image o at r in
      let e : places + (total - places) ≡ total = omega arith in
      let z : places + 0 ≡ places = omega arith in
      ap (λ q. lost (surveyed o i places) (total - places) (fault_at r.source (q % w) (q / w) Missing)) (sym z)
      ∙ sym (all_lost (surveyed o i places) (λ k. reading i (places + k)) r.source (λ k. (places + k) % w) (λ k. (places + k) / w) (total - places)
      (λ k l. h ((places + k) % w) ((places + k) / w) (omega (arith, div-add-mod (places + k) w, mul_comm w ((places + k) / w)))))
      ∙ sym (onward-append o fresh (reading i) places (total - places))
      ∙ ap (surveyed o i) e

  -- a picture by its header's numbers
  abbrev drawn : (ℕ → Cell) → Header → ℕ → Image K
  drawn at h src = record {
    width = h.width;
    height = h.height;
    maxval = h.maxval;
    at = λ x y. pixel_at o at h.maxval (h.length + (y * h.width + x) * pixel_bytes o h.maxval) (fault_at src x y);
  }

  pub drawn_same : (at : ℕ → Cell) (r s : Raster) → headed r ≡ headed s → r.source ≡ s.source → raster_image o at r ≡ raster_image o at s
  drawn_same at r s h e = ap (λ x. drawn at x r.source) h ∙ ap (drawn at (headed s)) e

-- no more pixels begin before the end than there are bytes
pub reached_few : (start end step : ℕ) → reached start end step ≤ end
reached_few start end step = grind (arith, nat_tests, div-le_self (end - start - 1) step)
