-- The raster of a picture without holes, and the places of a store that it stands at.
use Rattle.std.proofs.Common.{◌≡◌, ℕ, ◌+◌, ◌*◌, ◌/◌, ◌%◌, ◌<◌, ◌≤◌, length, get_or, sym, ap, ◌∙◌, subst, mul_comm, zero-add, arith}
use Rattle.std.specs.List.{range_with_len}
use Rattle.std.proofs.lemmas.Nat.{div-add-mod', div-mul-add, mod-mul-add, div_below, mod_below}
use Rattle.std.proofs.lemmas.List.FromFn.{length-range_with_len, get_or-range_with_len}
use Rattle.pixel.specs.Ops.{Ops, Under}
use Rattle.store.specs.Cells.{Cell, byte}
use Rattle.picture.specs.declared.fault.Cause.{Cause}
use Rattle.picture.specs.declared.fault.Fault.{Fault}
use Rattle.picture.specs.Places.{pixel, fault_of}
use Rattle.picture.specs.Images.{Image, Bounded, Dim}
use Rattle.source.specs.Files.{pixel_at}
use Rattle.source.specs.Files as files
use Rattle.writer.specs.File.{place_of, place_bytes, pixel_width, reading, raster}
use Rattle.writer.proofs.Codes.{at_place, places_long}
use Rattle.writer.proofs.Joins.{length-pixel_bytes, room}
use Rattle.reread.specs.Trips.{NoHoles, Holds, Eights}
use Rattle.reread.proofs.Parts.{part_at}
use Rattle.source.proofs.Widths.{same_width}
use Rattle.reread.proofs.Pixels.{width_some}
use Rattle.reread.proofs.Places.{Laws, stands_read, read_stands}

module _ {K T : Type 0} (o : Ops K T) (laws : Laws o) (i : Image K) (no : NoHoles i) where
  -- the k-th pixel in reading order
  each : (k : ℕ) → k < i.width * i.height → (p : K) × (place_of i k ≡ pixel p)
  each k h = let c = at_place i k h in no (k % i.width) (k / i.width) c.0 c.1

  pub raster_long : length (raster o i) ≡ i.width * i.height * pixel_width o i.maxval
  unfolding reading
  raster_long = places_long o laws.deep i.maxval (place_of i) 0 (i.width * i.height) (λ k a b. ap fault_of (each k (omega arith)).1)

  -- its bytes are those of its pixels, one behind another
  raster_at : (k j : ℕ) → k < i.width * i.height → j < pixel_width o i.maxval
      → get_or (raster o i) (k * pixel_width o i.maxval + j) 0 ≡ get_or (place_bytes o i.maxval (place_of i k)) j 0
  unfolding reading
  raster_at k j h l =
      let n = i.width * i.height in
      let m = i.maxval in
      let place : (q : ℕ) → q < n → get_or (range_with_len 0 n) q 0 ≡ q = λ q a. get_or-range_with_len 0 n q 0 a ∙ zero-add q in
      let c = length-range_with_len 0 n in
      part_at (λ q. place_bytes o m (place_of i q)) (pixel_width o m) 0 0 (range_with_len 0 n)
      (λ q a. let p = each q (omega arith) in
      ap (λ z. length (place_bytes o m (place_of i z))) (place q (omega arith)) ∙ ap (λ z. length (place_bytes o m z)) p.1 ∙ length-pixel_bytes o laws.deep m p.0)
      k j (omega arith) l
      ∙ ap (λ z. get_or (place_bytes o m (place_of i z)) j 0) (place k h)

  module _ (at : ℕ → Cell) (start : ℕ) where
    -- a store that has the raster shows the picture
    pub raster-read : Bounded o i → Holds at start (raster o i) → (x y : ℕ) → x < i.width → y < i.height → (fault : Cause → Fault)
        → pixel_at o at i.maxval (start + (y * i.width + x) * files.pixel_bytes o i.maxval) fault ≡ i.at x y
    raster-read bounded holds x y hx hy fault =
        let m = i.maxval in
        let w = pixel_width o m in
        let k = y * i.width + x in
        let same = sym (same_width o m) in
        let inside : k < i.width * i.height = omega (arith, room y i.height i.width hy, mul_comm i.height i.width) in
        let here : place_of i k ≡ i.at x y = ap (λ c. i.at c (k / i.width)) (mod-mul-add y i.width x hx) ∙ ap (λ r. i.at x r) (div-mul-add y i.width x hx) in
        let q = no x y hx hy in
        let dim : Under m (o.samples q.0) = subst (Dim o m) q.1 (bounded x y hx hy) in
        stands_read o laws at m (start + k * files.pixel_bytes o m) fault q.0 dim
        (λ j l. let below : j < w = subst (λ n. j < n) same l in
        let z : start + k * files.pixel_bytes o m + j ≡ start + (k * w + j) = omega (arith, ap (λ n. k * n) same) in
        ap at z ∙ holds (k * w + j) (omega (arith, raster_long, room k (i.width * i.height) w inside))
        ∙ ap byte (raster_at k j inside below ∙ ap (λ p. get_or (place_bytes o m p) j 0) (here ∙ q.1)))
        ∙ sym q.1

    -- a picture that was read there has the raster that the store has
    pub raster-again : i.maxval ≤ 65535 → (256 ≤ i.maxval → Eights at)
        → ((x y : ℕ) → (fault : Cause → Fault) × (i.at x y ≡ pixel_at o at i.maxval (start + (y * i.width + x) * files.pixel_bytes o i.maxval) fault))
        → Holds at start (raster o i)
    raster-again bright eights shown n h =
        let m = i.maxval in
        let w = pixel_width o m in
        let same = sym (same_width o m) in
        let some : 0 < w = width_some o m laws.some in
        let k = n / w in
        let j = n % w in
        let x = k % i.width in
        let y = k / i.width in
        let inside : k < i.width * i.height = div_below n w (i.width * i.height) some (omega (arith, raster_long)) in
        let below : j < w = mod_below n w some in
        let e : k * w + j ≡ n = div-add-mod' n w in
        let here : y * i.width + x ≡ k = div-add-mod' k i.width in
        let q = each k inside in
        let s = shown x y in
        let z : start + n ≡ start + (y * i.width + x) * files.pixel_bytes o m + j = omega (arith, ap (λ t. t * files.pixel_bytes o m) here, ap (λ t. k * t) same) in
        ap at z
        ∙ read_stands o laws at m (start + (y * i.width + x) * files.pixel_bytes o m) s.0 q.0 bright eights (sym s.1 ∙ q.1) j (subst (λ t. j < t) (sym same) below)
        ∙ ap byte (sym (ap (λ t. get_or (raster o i) t 0) (sym e) ∙ raster_at k j inside below ∙ ap (λ t. get_or (place_bytes o m t) j 0) q.1))
