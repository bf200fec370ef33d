-- A run of pixels of a row of a file.
use Rattle.std.specs.Prelude.{◌≡◌, ℕ, suc, ◌+◌, ◌-◌, ◌*◌, ◌<◌, ◌≤◌, Bool, true, false, cond, List, ◌++◌, length, Some, None, Ok, Err, Option, slice_index, refl}
use Rattle.std.proofs.Common.{sym, ◌∙◌, ap, subst, ⊎_elim, ◌⊎◌, mul_comm, add-mul, arith}
use Rattle.std.proofs.lemmas.List.FromFn.{fill_by_all, get_or-map-range_with_len}
use Rattle.std.proofs.lemmas.List.{get_or_append_left}
use Rattle.std.proofs.lemmas.Bool.{cases_Bool, cond-true, cond-false}
use Rattle.pixel.specs.Ops.{Ops, Under, joined}
use Rattle.store.specs.Cells.{Cell}
use Rattle.store.specs.Reads.{answer, value}
use Rattle.store.proofs.Answering.{answer_front, answer_past}
use Rattle.picture.specs.declared.fault.Cause.{Cause}
use Rattle.picture.specs.declared.fault.Cause.TheVariants.{Above}
use Rattle.picture.specs.declared.fault.Fault.{Fault}
use Rattle.picture.specs.Places.{Place, pixel, hole, fault_of, first_fault, or_else}
use Rattle.picture.specs.Images.{Image, Dim}
use Rattle.picture.specs.Prepare.{coded, lined, Shown, or_fault, first_in}
use Rattle.picture.proofs.Faults.{first_stays, shown_clean}
use Rattle.picture.proofs.Serving.{row_end}
use Rattle.source.specs.declared.raster.Raster.{Raster}
use Rattle.source.specs.Raster.{wide, sample_bytes, sample_of, samples_of, under, from}
use Rattle.source.specs.Files.{seen, lacking, fault_at, pixel_bytes, pixel_at, raster_image}
use Rattle.source.specs.Loading.{Loaded, Lacks}
use Rattle.source.specs.Runs.{Decoded}
use Rattle.source.specs.Sampling.{samples_long, under_at}

-- what the laws of a kind say of samples and codes
pub record Lawful {K S : Type 0} (o : Ops K S) : Type 0 where
  pub coded : (p : K) → o.code p ≡ joined (o.samples p)
  pub sampled : (xs : List ℕ) → length xs ≡ o.depth → Under 65535 xs → o.samples (o.pixel xs) ≡ xs

sample_same : (w : Bool) (a b : ℕ → ℕ) (d k : ℕ) → ((j : ℕ) → j < d * sample_bytes w → a j ≡ b j) → k < d → sample_of w a k ≡ sample_of w b k
sample_same true a b d k h l =
    ap (λ x. x * 256 + a (2 * k + 1)) (h (2 * k) (omega arith)) ∙ ap (λ x. b (2 * k) * 256 + x) (h (2 * k + 1) (omega arith))
sample_same false a b d k h l = h k (omega arith)

-- the same bytes make the same samples
pub samples_same : (w : Bool) (a b : ℕ → ℕ) (d : ℕ) → ((j : ℕ) → j < d * sample_bytes w → a j ≡ b j) → samples_of w a d ≡ samples_of w b d
samples_same w a b d h =
    fill_by_all (sample_of w b) (samples_of w a d) d 0 (samples_long w a d)
    (λ k l. get_or-map-range_with_len (sample_of w a) 0 d k k 0 l (omega arith) ∙ sample_same w a b d k h l)

module _ {K S : Type 0} (o : Ops K S) where
  -- a pixel whose bytes are there has the code that they make, or it is a hole by a sample above maxval
  coded-seen : (m : ℕ) (xs : List ℕ) (fault : Cause → Fault) → Lawful o → length xs ≡ o.depth → m ≤ 65535
      → coded o (seen o None m xs fault) ≡ cond (under m xs) (Some (joined xs)) None
  coded-seen m xs fault laws l h =
      ⊎_elim
      (λ u. let b : Under 65535 xs = λ i. let q = under_at m xs u i in omega arith in
      ap (λ x. coded o (cond x (pixel (o.pixel xs)) (hole (fault Above)))) u
      ∙ ap Some (laws.coded (o.pixel xs) ∙ ap joined (laws.sampled xs l b))
      ∙ ap (λ x. cond x (Some (joined xs)) None) (sym u))
      (λ u. ap (λ x. coded o (cond x (pixel (o.pixel xs)) (hole (fault Above)))) u ∙ ap (λ x. cond x (Some (joined xs)) None) (sym u))
      (cases_Bool (under m xs))

  hole_of : (b : Bool) (p : Place K) (c : ℕ) (f : Fault) → cond b (Some c) None ≡ None → cond b p (hole f) ≡ hole f
  hole_of true p c f e = cc
  hole_of false p c f e = refl

  pub first_at : (f : ℕ → Place K) (a n : ℕ) (e : Fault) → a < n → first_fault f a ≡ None → f a ≡ hole e → first_fault f n ≡ Some e
  first_at f a n e l c h =
      first_stays f (suc a) n e (omega arith) (ap (λ x. or_else x (fault_of (f a))) c ∙ ap fault_of h)

  module _ (at : ℕ → Cell) (r : Raster) (left row : ℕ) where
    -- the image, the bytes of a pixel, and where the run begins
    abbrev pub image : Image K
    image = raster_image o at r

    abbrev pub step : ℕ
    step = pixel_bytes o r.size.maxval

    abbrev pub begin : ℕ
    begin = r.start + (row * r.size.width + left) * step

    place_of : (k : ℕ) → r.start + (row * r.size.width + (left + k)) * step ≡ begin + k * step
    place_of k =
        let q : row * r.size.width + (left + k) ≡ row * r.size.width + left + k = omega arith in
        omega (arith, ap (λ x. x * step) q, add-mul (row * r.size.width + left) k step)

    -- the k-th pixel of the run, by its bytes
    pub pixel_of : (k : ℕ) → lined image left row k ≡ pixel_at o at r.size.maxval (begin + k * step) (fault_at r.source (left + k) row)
    pixel_of k = ap (λ p. pixel_at o at r.size.maxval p (fault_at r.source (left + k) row)) (place_of k)

    bytes_there : (n k : ℕ) → k < n → answer at begin (n * step) ≡ Ok tt → answer at (begin + k * step) step ≡ Ok tt
    bytes_there n k l a =
        let h : k * step + step ≤ n * step = row_end k step n (n * step) l (omega (arith, mul_comm step n)) in
        let e : k * step + step + (n * step - (k * step + step)) ≡ n * step = omega arith in
        let b : answer at begin (k * step + step) ≡ Ok tt = answer_front at begin (k * step + step) (n * step - (k * step + step)) (ap (answer at begin) e ∙ a) in
        let c : answer at begin (k * step) ≡ Ok tt = answer_front at begin (k * step) step b in
        sym (answer_past at begin (k * step) step c) ∙ b

    samples_there : (n k : ℕ) (block : List ℕ) → k < n → ((j : ℕ) → j < n * step → slice_index block j ≡ value (at (begin + j)))
        → samples_of (wide r.size.maxval) (λ j. value (at (begin + k * step + j))) o.depth ≡ samples_of (wide r.size.maxval) (from block (k * step)) o.depth
    samples_there n k block l b =
        samples_same (wide r.size.maxval) (λ j. value (at (begin + k * step + j))) (from block (k * step)) o.depth
        (λ j h. let q : k * step + step ≤ n * step = row_end k step n (n * step) l (omega (arith, mul_comm step n)) in
        let e : begin + k * step + j ≡ begin + (k * step + j) = omega arith in
        ap (λ p. value (at p)) e ∙ sym (b (k * step + j) (omega arith)))

    -- a pixel of the run whose bytes were read
    seen_there : (n k : ℕ) (block : List ℕ) → k < n → answer at begin (n * step) ≡ Ok tt → ((j : ℕ) → j < n * step → slice_index block j ≡ value (at (begin + j)))
        → lined image left row k ≡ seen o None r.size.maxval (samples_of (wide r.size.maxval) (from block (k * step)) o.depth) (fault_at r.source (left + k) row)
    seen_there n k block l a b =
        pixel_of k
        ∙ ap (λ x. seen o (lacking x) r.size.maxval (samples_of (wide r.size.maxval) (λ j. value (at (begin + k * step + j))) o.depth) (fault_at r.source (left + k) row)) (bytes_there n k l a)
        ∙ ap (λ xs. seen o None r.size.maxval xs (fault_at r.source (left + k) row)) (samples_there n k block l b)

    -- those that were decoded are shown
    pub run-shown : (n t : ℕ) (block out : List ℕ) → Lawful o → t ≤ n → answer at begin (n * step) ≡ Ok tt → ((j : ℕ) → j < n * step → slice_index block j ≡ value (at (begin + j)))
        → Decoded o (wide r.size.maxval) r.size.maxval block n t out → Shown o (lined image left row) t out
    run-shown n t block out laws l a b d k h =
        ap (coded o) (seen_there n k block (omega arith) a b)
        ∙ coded-seen r.size.maxval _ (fault_at r.source (left + k) row) laws (samples_long (wide r.size.maxval) (from block (k * step)) o.depth) r.size.fits
        ∙ d.taken k h

    -- the one behind them that was not is a hole
    pub run_above : (n t : ℕ) (block out : List ℕ) → t < n → answer at begin (n * step) ≡ Ok tt → ((j : ℕ) → j < n * step → slice_index block j ≡ value (at (begin + j)))
        → Decoded o (wide r.size.maxval) r.size.maxval block n t out → lined image left row t ≡ hole (fault_at r.source (left + t) row Above)
    run_above n t block out l a b d =
        seen_there n t block l a b ∙ hole_of (under r.size.maxval (samples_of (wide r.size.maxval) (from block (t * step)) o.depth)) _ _ _ (d.next l)

    -- the one that lacks a byte is a hole
    pub run_lacks : (n : ℕ) (c : Cause) → lacking (answer at (begin + n * step) step) ≡ Some c → lined image left row n ≡ hole (fault_at r.source (left + n) row c)
    run_lacks n c e =
        pixel_of n ∙ ap (λ x. seen o x r.size.maxval (samples_of (wide r.size.maxval) (λ j. value (at (begin + n * step + j))) o.depth) (fault_at r.source (left + n) row)) e

    module _ (s n pixels d t : ℕ) (lack : Option Cause) (block out : List ℕ) (laws : Lawful o) (es : s ≡ step) (ed : d ≡ pixels)
        (load : Loaded at (r.start + (row * r.size.width + left) * s) s n block pixels lack)
        (took : Decoded o (wide r.size.maxval) r.size.maxval block d t out) where
      loaded : Loaded at begin step n block pixels lack
      loaded = subst (λ z. Loaded at (r.start + (row * r.size.width + left) * z) z n block pixels lack) es load

      decoded : Decoded o (wide r.size.maxval) r.size.maxval block pixels t out
      decoded = subst (λ z. Decoded o (wide r.size.maxval) r.size.maxval block z t out) ed took

      clean : first_fault (lined image left row) t ≡ None
      clean = shown_clean o (lined image left row) t out (run-shown pixels t block out laws decoded.within loaded.there loaded.bytes decoded)

      -- the run ends at a sample above maxval
      pub ends_above : t < pixels → Err (fault_at r.source (left + t) row Above) ≡ first_in (lined image left row) n
      ends_above h =
          ap or_fault (sym (first_at (lined image left row) t n (fault_at r.source (left + t) row Above) (omega (arith, loaded.within)) clean
          (run_above pixels t block out h loaded.there loaded.bytes decoded)))

      all_taken : pixels ≤ t → t ≡ pixels
      all_taken h = omega (arith, decoded.within)

      -- the run ends at a byte that is lacking
      pub ends_lacking : (c : Cause) → lack ≡ Some c → pixels ≤ t → Err (fault_at r.source (left + t) row c) ≡ first_in (lined image left row) n
      ends_lacking c e h =
          let k : Lacks at begin step n pixels (Some c) = subst (Lacks at begin step n pixels) e loaded.lacks in
          let q = all_taken h in
          ap or_fault (sym (first_at (lined image left row) t n (fault_at r.source (left + t) row c) (omega (arith, k.0)) clean
          (ap (lined image left row) q ∙ run_lacks pixels c k.1 ∙ ap (λ z. hole (fault_at r.source (left + z) row c)) (sym q))))

      -- why the run ends: a sample above maxval, or what the read says
      abbrev pub Ends : Option Cause → Type 0
      Ends why = ((t < pixels) × (why ≡ Some Above)) ⊎ ((pixels ≤ t) × (why ≡ lack))

      pub ends-hole : (why : Option Cause) (c : Cause) → Ends why → why ≡ Some c → Err (fault_at r.source (left + t) row c) ≡ first_in (lined image left row) n
      ends-hole why c w e =
          ⊎_elim
          (λ a. let s : Above ≡ c = cc in ap (λ z. Err (fault_at r.source (left + t) row z)) (sym s) ∙ ends_above a.0)
          (λ b. ends_lacking c (sym b.1 ∙ e) b.0)
          w

      -- the run is whole
      pub ends_whole : lack ≡ None → pixels ≤ t → (t ≡ n) × Shown o (lined image left row) n out
      ends_whole e h =
          let k : Lacks at begin step n pixels None = subst (Lacks at begin step n pixels) e loaded.lacks in
          let q : t ≡ n = all_taken h ∙ k in
          (q, subst (λ z. Shown o (lined image left row) z out) q (run-shown pixels t block out laws decoded.within loaded.there loaded.bytes decoded))

      pub ends-none : (why : Option Cause) → Ends why → why ≡ None → (t ≡ n) × Shown o (lined image left row) n out
      ends-none why w e =
          ⊎_elim (λ a. let s : ◌≡◌ {A = ℕ} 0 1 = cc in absurd (omega arith)) (λ b. ends_whole (sym b.1 ∙ e) b.0) w

  pub shown-append : (f : ℕ → Place K) (n : ℕ) (part rest : List ℕ) → n ≤ length part → Shown o f n part → Shown o f n (part ++ rest)
  shown-append f n part rest l s k h = s k h ∙ ap Some (sym (get_or_append_left part rest 0 k (omega arith)))

  dim_seen : (c : Option Cause) (m : ℕ) (xs : List ℕ) (fault : Cause → Fault) → Lawful o → length xs ≡ o.depth → m ≤ 65535 → Dim o m (seen o c m xs fault)
  dim_seen (Some c) m xs fault laws l h = tt
  dim_seen None m xs fault laws l h =
      ⊎_elim
      (λ u. let b : Under 65535 xs = λ i. let q = under_at m xs u i in omega arith in
      subst (Dim o m) (sym (cond-true (under m xs) (pixel (o.pixel xs)) (hole (fault Above)) u)) (subst (Under m) (sym (laws.sampled xs l b)) (under_at m xs u)))
      (λ u. subst (Dim o m) (sym (cond-false (under m xs) (pixel (o.pixel xs)) (hole (fault Above)) u)) tt)
      (cases_Bool (under m xs))

  -- no sample of a file's picture is above maxval
  pub raster_bounded : (at : ℕ → Cell) (r : Raster) → Lawful o → (u v : ℕ) → Dim o r.size.maxval ((raster_image o at r).at u v)
  raster_bounded at r laws u v =
      let p = r.start + (v * r.size.width + u) * pixel_bytes o r.size.maxval in
      dim_seen (lacking (answer at p (pixel_bytes o r.size.maxval))) r.size.maxval (samples_of (wide r.size.maxval) (λ j. value (at (p + j))) o.depth) (fault_at r.source u v)
      laws (samples_long (wide r.size.maxval) (λ j. value (at (p + j))) o.depth) r.size.fits
