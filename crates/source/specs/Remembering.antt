-- A row of a picture in memory.
use Rattle.std.specs.Prelude.{◌≡◌, ℕ, ◌+◌, ◌*◌, ◌<◌, Bool, true, false, cond, ◌≢◌, List, length, Some, None, Option, slice_index, slice_set, refl}
use Rattle.std.proofs.Common.{sym, ◌∙◌, ap, arith, get_or-set_same, get_or-set_other, below_more}
use Rattle.pixel.specs.Ops.{Ops}
use Rattle.picture.specs.declared.fault.Cause.TheVariants.{NoPixel}
use Rattle.picture.specs.declared.fault.Fault.{Fault}
use Rattle.picture.specs.declared.size.Size.{Size}
use Rattle.picture.specs.Places.{pixel, hole}
use Rattle.picture.specs.Images.{Dim}
use Rattle.picture.specs.Prepare.{Shown, coded, lined}
use Rattle.source.specs.Raster.{under}
use Rattle.source.specs.Files.{fault_at}
use Rattle.source.specs.Memory.{acceptable, accepted_by, memory_image, remembered}
use Rattle.source.specs.Sampling.{under_at}

module _ {K S : Type 0} (o : Ops K S) where
  hole_of : (m : ℕ) (x : Option K) (f : Fault) → accepted_by o m x ≡ false → remembered o m x f ≡ hole f
  hole_of m None f e = refl
  hole_of m (Some p) f e = ap (λ b. cond b (pixel p) (hole f)) e

  code_of : (m c : ℕ) (x : Option K) (f : Fault) → ((p : K) → x ≡ Some p → o.code p ≡ c) → accepted_by o m x ≡ true → coded o (remembered o m x f) ≡ Some c
  code_of m c None f r e = cc
  code_of m c (Some p) f r e = ap (λ b. coded o (cond b (pixel p) (hole f))) e ∙ ap Some (r p refl)

  dim_of : (m : ℕ) (p : K) (f : Fault) (b : Bool) → under m (o.samples p) ≡ b → Dim o m (cond b (pixel p) (hole f))
  dim_of m p f true e = under_at m (o.samples p) e
  dim_of m p f false e = tt

  pub dim_remembered : (m : ℕ) (x : Option K) (f : Fault) → Dim o m (remembered o m x f)
  dim_remembered m None f = tt
  dim_remembered m (Some p) f = dim_of m p f (under m (o.samples p)) refl

  module _ (codes : List ℕ) (s : Size) (source left row : ℕ) where
    place_of : (k : ℕ) → row * s.width + (left + k) ≡ row * s.width + left + k
    place_of k = omega arith

    pub row_hole : (k c : ℕ) → c ≡ slice_index codes (row * s.width + left + k) → acceptable o s.maxval c ≡ false
        → lined (memory_image o codes s source) left row k ≡ hole (fault_at source (left + k) row NoPixel)
    row_hole k c e a =
        ap (λ z. remembered o s.maxval (o.decode (slice_index codes z)) (fault_at source (left + k) row NoPixel)) (place_of k)
        ∙ ap (λ z. remembered o s.maxval (o.decode z) (fault_at source (left + k) row NoPixel)) (sym e)
        ∙ hole_of s.maxval (o.decode c) (fault_at source (left + k) row NoPixel) a

    row_code : (k c : ℕ) → ((c : ℕ) (p : K) → o.decode c ≡ Some p → o.code p ≡ c) → c ≡ slice_index codes (row * s.width + left + k) → acceptable o s.maxval c ≡ true
        → coded o (lined (memory_image o codes s source) left row k) ≡ Some c
    row_code k c r e a =
        ap (λ z. coded o (remembered o s.maxval (o.decode (slice_index codes z)) (fault_at source (left + k) row NoPixel))) (place_of k)
        ∙ ap (λ z. coded o (remembered o s.maxval (o.decode z) (fault_at source (left + k) row NoPixel))) (sym e)
        ∙ code_of s.maxval c (o.decode c) (fault_at source (left + k) row NoPixel) (r c) a

    pub row_more : (k c : ℕ) (out : List ℕ) → ((c : ℕ) (p : K) → o.decode c ≡ Some p → o.code p ≡ c) → c ≡ slice_index codes (row * s.width + left + k) → acceptable o s.maxval c ≡ true
        → k < length out → Shown o (lined (memory_image o codes s source) left row) k out → Shown o (lined (memory_image o codes s source) left row) (k + 1) (slice_set out k c)
    row_more k c out r e a l h =
        below_more _ _
        (λ j i. let ne : j ≢ k = omega arith in h j i ∙ ap Some (sym (get_or-set_other out k j c 0 ne)))
        (row_code k c r e a ∙ ap Some (sym (get_or-set_same out k c 0 l)))
