-- The bytes of codes are those of the places that they stand for.
use Rattle.std.proofs.Common.{◌≡◌, ℕ, zero, suc, ◌+◌, ◌-◌, ◌*◌, ◌/◌, ◌%◌, ◌<◌, ◌≤◌, List, map, length, get_or, take, drop, Some, None, Option, sym, refl, ap, ◌∙◌, subst, inl, inr, add-zero, mod-lt, mul_comm, zero-add, zero-mul, arith, length-append}
use Rattle.std.specs.List.{range_with_len, flat_map}
use Rattle.std.proofs.lemmas.List.{get_or_append_left, take_at}
use Rattle.std.proofs.lemmas.List.FromFn.{length-map-range_with_len, get_or-map-range_with_len}
use Rattle.std.proofs.lemmas.Bool.{cases_order, cases_lt}
use Rattle.std.proofs.lemmas.Nat.{div_below}
use Rattle.pixel.specs.Ops.{Ops}
use Rattle.picture.specs.Places.{Place, pixel, hole, fault_of, or_else, first_fault}
use Rattle.picture.specs.Images.{Image, Dim, Bounded}
use Rattle.picture.specs.Prepare.{put, code_at}
use Rattle.writer.specs.File.{place_of, place_bytes, pixel_width, reading}
use Rattle.writer.specs.Layout.{decoded_bytes, code_bytes, Known}
use Rattle.writer.proofs.Joins.{joined-map, joined_same, joined_shift, length-pixel_bytes, times_suc}

or_none : {X : Type 0} (x y : Option X) → or_else x y ≡ None → (x ≡ None) × (y ≡ None)
or_none None y e = (refl, e)
or_none (Some x) y e = let z : ◌≡◌ {A = ℕ} 0 1 = cc in absurd (omega arith)

-- where there is no first fault there is none
pub each_clean : {K : Type 0} (f : ℕ → Place K) (n : ℕ) → first_fault f n ≡ None → (k : ℕ) → k < n → fault_of (f k) ≡ None
each_clean f zero e k h = absurd (omega arith)
each_clean f (suc n) e k h =
    let p = or_none (first_fault f n) (fault_of (f n)) e in
    elim (cases_order k n) [
      | inl q ↦ ap (λ j. fault_of (f j)) q ∙ p.1
      | inr s ↦ elim s [ inl l ↦ each_clean f n p.0 k l | inr l ↦ absurd (omega arith) ]
    ]

-- the column and the row of a place of a picture
pub at_place : {K : Type 0} (i : Image K) (k : ℕ) → k < i.width * i.height → (k % i.width < i.width) × (k / i.width < i.height)
at_place i k h =
    let some : 0 < i.width = elim (cases_lt 0 i.width) [
      | inl l ↦ l
      | inr l ↦ (let z : i.width ≡ 0 = omega arith in let y : i.width * i.height ≡ 0 = ap (λ n. n * i.height) z ∙ zero-mul i.height in absurd (omega arith))
    ] in
    (mod-lt k some, div_below k i.width i.height some (let c = mul_comm i.width i.height in omega arith))

-- a code of the first places, in a buffer behind a prepare
pub code_at_lem : (f : ℕ → ℕ) (n : ℕ) (buffer : List ℕ) (k : ℕ) → k < n → get_or (put None f n buffer) k 0 ≡ f k
code_at_lem f n buffer k h =
    let l = length-map-range_with_len f 0 n in
    get_or_append_left (map f (range_with_len 0 n)) (drop n buffer) 0 k (omega arith) ∙ get_or-map-range_with_len f 0 n k k 0 h (zero-add k)

pub codes_front : (f : ℕ → ℕ) (n : ℕ) (buffer : List ℕ) → take n (put None f n buffer) ≡ map f (range_with_len 0 n)
codes_front f n buffer = take_at (map f (range_with_len 0 n)) (drop n buffer) n (length-map-range_with_len f 0 n)

module _ {K S : Type 0} (o : Ops K S) where
  pub place_dim : (i : Image K) → Bounded o i → (k : ℕ) → k < i.width * i.height → Dim o i.maxval (place_of i k)
  place_dim i bound k h = let p = at_place i k h in bound (k % i.width) (k / i.width) p.0 p.1

  module _ (decodes : (p : K) → o.decode (o.code p) ≡ Some p) where
    pub code_bytes_lem : (m : ℕ) (p : Place K) → fault_of p ≡ None → code_bytes o m (code_at o p) ≡ place_bytes o m p
    code_bytes_lem m (pixel p) e = ap (decoded_bytes o m) (decodes p)
    code_bytes_lem m (hole f) e = let z : ◌≡◌ {A = ℕ} 0 1 = cc in absurd (omega arith)

    code_known : (m : ℕ) (p : Place K) → Dim o m p → fault_of p ≡ None → Known o m (o.decode (code_at o p))
    code_known m (pixel p) u e = let D : Option K → Type 0 = Known o m in subst D (sym (decodes p)) u
    code_known m (hole f) u e = let z : ◌≡◌ {A = ℕ} 0 1 = cc in absurd (omega arith)

    -- each code of the buffer behind a prepare without a hole is a pixel's
    pub known : (m : ℕ) (f : ℕ → Place K) (n : ℕ) (buffer : List ℕ) → first_fault f n ≡ None → ((k : ℕ) → k < n → Dim o m (f k))
        → (k : ℕ) → k < n → Known o m (o.decode (get_or (put None (λ j. code_at o (f j)) n buffer) k 0))
    known m f n buffer e u k h =
        let D : ℕ → Type 0 = λ c. Known o m (o.decode c) in
        subst D (sym (code_at_lem (λ j. code_at o (f j)) n buffer k h)) (code_known m (f k) (u k h) (each_clean f n e k h))

    pub codes_bytes : (m : ℕ) (f : ℕ → Place K) (n : ℕ) (buffer : List ℕ) → first_fault f n ≡ None
        → flat_map (code_bytes o m) (take n (put None (λ j. code_at o (f j)) n buffer)) ≡ flat_map (λ k. place_bytes o m (f k)) (range_with_len 0 n)
    codes_bytes m f n buffer e =
        ap (flat_map (code_bytes o m)) (codes_front (λ j. code_at o (f j)) n buffer)
        ∙ joined-map (code_bytes o m) (λ j. code_at o (f j)) (range_with_len 0 n)
        ∙ joined_same (λ k. code_bytes o m (code_at o (f k))) (λ k. place_bytes o m (f k)) 0 n (λ k p q. code_bytes_lem m (f k) (each_clean f n e k (omega arith)))

    pub codes_reading : (i : Image K) (a n : ℕ) (buffer : List ℕ) → first_fault (λ k. place_of i (a + k)) n ≡ None
        → flat_map (code_bytes o i.maxval) (take n (put None (λ j. code_at o (place_of i (a + j))) n buffer)) ≡ reading o i a n
    unfolding reading
    codes_reading i a n buffer e =
        codes_bytes i.maxval (λ k. place_of i (a + k)) n buffer e
        ∙ joined_shift (λ k. place_bytes o i.maxval (place_of i k)) a 0 n
        ∙ ap (λ k. flat_map (λ j. place_bytes o i.maxval (place_of i j)) (range_with_len k n)) (add-zero a)

  module _ (deep : (p : K) → length (o.samples p) ≡ o.depth) where
    place_long : (m : ℕ) (p : Place K) → fault_of p ≡ None → length (place_bytes o m p) ≡ pixel_width o m
    place_long m (pixel p) e = length-pixel_bytes o deep m p
    place_long m (hole f) e = let z : ◌≡◌ {A = ℕ} 0 1 = cc in absurd (omega arith)

    pub places_long : (m : ℕ) (f : ℕ → Place K) (a n : ℕ) → ((k : ℕ) → a ≤ k → k < a + n → fault_of (f k) ≡ None)
        → length (flat_map (λ k. place_bytes o m (f k)) (range_with_len a n)) ≡ n * pixel_width o m
    places_long m f a zero h = sym (zero-mul (pixel_width o m))
    places_long m f a (suc n) h =
        let l : length (place_bytes o m (f a)) ≡ pixel_width o m = place_long m (f a) (h a (omega arith) (omega arith)) in
        let r = places_long m f (a + 1) n (λ k p q. h k (omega arith) (omega arith)) in
        length-append (place_bytes o m (f a)) (flat_map (λ k. place_bytes o m (f k)) (range_with_len (a + 1) n)) ∙ omega (arith, times_suc n (pixel_width o m))

    pub reading_long : (i : Image K) (a n : ℕ) → first_fault (λ k. place_of i (a + k)) n ≡ None → length (reading o i a n) ≡ n * pixel_width o i.maxval
    unfolding reading
    reading_long i a n e =
        places_long i.maxval (place_of i) a n (λ k p q.
        let z : a + (k - a) ≡ k = omega arith in
        ap (λ j. fault_of (place_of i j)) (sym z) ∙ each_clean (λ j. place_of i (a + j)) n e (k - a) (omega arith))
