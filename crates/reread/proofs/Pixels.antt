-- A pixel's bytes and its samples.
use Rattle.std.proofs.Common.{◌≡◌, ℕ, zero, suc, ◌+◌, ◌*◌, ◌/◌, ◌%◌, ◌<◌, ◌≤◌, Bool, true, false, cond, not, ltb, List, [], ◌∷◌, length, get_or, sym, refl, ap, ◌∙◌, ⊎_elim, arith}
use Rattle.std.specs.List.{flat_map}
use Rattle.std.proofs.lemmas.List.FromFn.{fill_by_all, get_or-map-range_with_len}
use Rattle.std.proofs.lemmas.Nat.{div-add-mod', div-mul-add, mod-mul-add, mod_below, div_below, mul-le}
use Rattle.std.proofs.lemmas.Bool.{cases_lt, lt-ltb, le-ltb, le-leb, lt-leb, leb-true}
use Rattle.pixel.specs.Ops.{Ops}
use Rattle.source.specs.Raster as source
use Rattle.source.specs.Raster.{wide, sample_of, samples_of}
use Rattle.source.specs.Sampling.{samples_long}
use Rattle.source.proofs.Widths.{same_sample}
use Rattle.writer.specs.File.{sample_width, sample_bytes, pixel_width}
use Rattle.writer.proofs.Joins.{length-sample_bytes, room}
use Rattle.reread.proofs.Parts.{part_at}

-- one byte or two, as the reader and the writer say it
narrow : (m : ℕ) → ltb m 256 ≡ not (wide m)
narrow m =
    ⊎_elim (λ h. lt-ltb m 256 h ∙ ap not (sym (lt-leb 256 m h))) (λ h. le-ltb m 256 h ∙ ap not (sym (le-leb 256 m h))) (cases_lt m 256)

some_by : (w : Bool) → 0 < source.sample_bytes w
some_by true = omega arith
some_by false = omega arith

-- and at least one
pub width_some : {K S : Type 0} (o : Ops K S) (m : ℕ) → 1 ≤ o.depth → 0 < pixel_width o m
width_some o m h =
    let some : 0 < source.sample_bytes (wide m) = some_by (wide m) in
    let a : 1 ≤ pixel_width o m = mul-le 1 1 o.depth (sample_width m) h (omega (arith, same_sample m)) in
    omega arith

-- the bytes of a sample
abbrev bytes_of : Bool → ℕ → List ℕ
bytes_of w s = cond (not w) (s ∷ []) (s / 256 ∷ (s % 256 ∷ []))

-- the bytes of samples, by place
byte_at : (m : ℕ) (xs : List ℕ) (k j : ℕ) → k < length xs → j < source.sample_bytes (wide m)
    → get_or (flat_map (sample_bytes m) xs) (k * source.sample_bytes (wide m) + j) 0 ≡ get_or (bytes_of (wide m) (get_or xs k 0)) j 0
byte_at m xs k j l h =
    part_at (sample_bytes m) (source.sample_bytes (wide m)) 0 0 xs (λ i a. length-sample_bytes m (get_or xs i 0) ∙ same_sample m) k j l h
    ∙ ap (λ b. get_or (cond b (get_or xs k 0 ∷ []) (get_or xs k 0 / 256 ∷ (get_or xs k 0 % 256 ∷ []))) j 0) (narrow m)

-- a sample reads back
back : (w : Bool) (bytes : ℕ → ℕ) (k s : ℕ) → ((j : ℕ) → j < source.sample_bytes w → bytes (k * source.sample_bytes w + j) ≡ get_or (bytes_of w s) j 0) → s ≡ sample_of w bytes k
back false bytes k s h = let z : k * 1 + 0 ≡ k = omega arith in sym (h 0 (omega arith)) ∙ ap bytes z
back true bytes k s h =
    let y : k * 2 + 0 ≡ 2 * k = omega arith in
    let z : k * 2 + 1 ≡ 2 * k + 1 = omega arith in
    let a : bytes (2 * k) ≡ s / 256 = ap bytes (sym y) ∙ h 0 (omega arith) in
    let b : bytes (2 * k + 1) ≡ s % 256 = ap bytes (sym z) ∙ h 1 (omega arith) in
    omega (arith, div-add-mod' s 256)

-- the bytes that make a sample are written of it; two bytes only come back where they are below 256
forth : (w : Bool) (bytes : ℕ → ℕ) (k j : ℕ) → (w ≡ true → (i : ℕ) → i < k * source.sample_bytes w + source.sample_bytes w → bytes i < 256) → j < source.sample_bytes w
    → get_or (bytes_of w (sample_of w bytes k)) j 0 ≡ bytes (k * source.sample_bytes w + j)
forth false bytes k zero h l = let z : k ≡ k * 1 + 0 = omega arith in ap bytes z
forth false bytes k (suc j) h l = absurd (omega arith)
forth true bytes k zero h l =
    let z : 2 * k ≡ k * 2 + 0 = omega arith in
    div-mul-add (bytes (2 * k)) 256 (bytes (2 * k + 1)) (h refl (2 * k + 1) (omega arith)) ∙ ap bytes z
forth true bytes k (suc zero) h l =
    let z : 2 * k + 1 ≡ k * 2 + 1 = omega arith in
    mod-mul-add (bytes (2 * k)) 256 (bytes (2 * k + 1)) (h refl (2 * k + 1) (omega arith)) ∙ ap bytes z
forth true bytes k (suc (suc j)) h l = absurd (omega arith)

-- the samples of written bytes
pub samples_back : (m : ℕ) (xs : List ℕ) (bytes : ℕ → ℕ) → ((j : ℕ) → j < length xs * source.sample_bytes (wide m) → bytes j ≡ get_or (flat_map (sample_bytes m) xs) j 0)
    → samples_of (wide m) bytes (length xs) ≡ xs
samples_back m xs bytes h =
    let n = source.sample_bytes (wide m) in
    sym (fill_by_all (sample_of (wide m) bytes) xs (length xs) 0 refl
    (λ k l. back (wide m) bytes k (get_or xs k 0) (λ j a. h (k * n + j) (omega (arith, room k (length xs) n l)) ∙ byte_at m xs k j l a)))

-- the bytes of samples that were read
pub bytes_back : (m d : ℕ) (bytes : ℕ → ℕ) → (256 ≤ m → (j : ℕ) → j < d * source.sample_bytes (wide m) → bytes j < 256)
    → (j : ℕ) → j < d * source.sample_bytes (wide m) → get_or (flat_map (sample_bytes m) (samples_of (wide m) bytes d)) j 0 ≡ bytes j
bytes_back m d bytes small j h =
    let n = source.sample_bytes (wide m) in
    let some : 0 < n = some_by (wide m) in
    let xs = samples_of (wide m) bytes d in
    let len = samples_long (wide m) bytes d in
    let k = j / n in
    let i = j % n in
    let below : k < d = div_below j n d some h in
    let rest : i < n = mod_below j n some in
    let e : k * n + i ≡ j = div-add-mod' j n in
    ap (λ q. get_or (flat_map (sample_bytes m) xs) q 0) (sym e)
    ∙ byte_at m xs k i (omega arith) rest
    ∙ ap (λ s. get_or (bytes_of (wide m) s) i 0) (get_or-map-range_with_len (sample_of (wide m) bytes) 0 d k k 0 below (omega arith))
    ∙ forth (wide m) bytes k i (λ t q a. small (leb-true 256 m t) q (omega (arith, room k d n below))) rest
    ∙ ap bytes e
