-- Parts of one length, written one behind another.
use Rattle.std.proofs.Common.{◌≡◌, ℕ, zero, suc, ◌+◌, ◌-◌, ◌*◌, ◌/◌, ◌%◌, ◌<◌, ◌≤◌, true, false, cond, ltb, List, [], ◌∷◌, ◌++◌, map, length, get_or, take, drop, Some, None, Option, sym, refl, ap, ◌∙◌, append_assoc, add-zero, mul_assoc, add-mul, one-mul, zero-add, zero-mul, arith, length-append, length-take}
use borrow.Rule.Slice.PartMut.{put_mid}
use Rattle.std.specs.List.{range_with_len, flat_map}
use Rattle.std.proofs.lemmas.List.{append-nil, length-replicate}
use Rattle.std.proofs.lemmas.List.FromFn.{fill_by_all, length-range_with_len}
use Rattle.std.proofs.lemmas.Nat.{mul-le}
use Rattle.pixel.specs.Ops.{Ops}
use Rattle.writer.specs.File.{sample_bytes, sample_width, pixel_bytes, pixel_width}
use Rattle.writer.specs.Layout.{repeated, decoded_bytes, code_bytes, row_bytes, rows_bytes}
use Rattle.writer.specs.Calls.{over}
use Rattle.writer.proofs.Paste.{over_next}

pub times_more : (i n : ℕ) → (i + 1) * n ≡ i * n + n
times_more i n = add-mul i 1 n ∙ ap (λ k. i * n + k) (one-mul n)

pub times_suc : (i n : ℕ) → suc i * n ≡ i * n + n
times_suc i n = let z : suc i ≡ i + 1 = omega arith in ap (λ k. k * n) z ∙ times_more i n

-- the i-th of e parts of length n ends by e * n
pub room : (i e n : ℕ) → i < e → i * n + n ≤ e * n
room i e n h = let a : (i + 1) * n ≤ e * n = mul-le (i + 1) n e n (omega arith) (omega arith) in omega (arith, times_more i n)

pub times_split : (a s n : ℕ) → a ≤ s → a * n + (s - a) * n ≡ s * n
times_split a s n h = sym (add-mul a (s - a) n) ∙ ap (λ k. k * n) (let z : a + (s - a) ≡ s = omega arith in z)

-- h rows of s parts, and the rows below them in a square
pub square_split : (h s n : ℕ) → h ≤ s → h * (s * n) + (s - h) * s * n ≡ s * s * n
square_split h s n l =
    ap (λ k. k + (s - h) * s * n) (sym (mul_assoc h s n)) ∙ sym (add-mul (h * s) ((s - h) * s) n) ∙ ap (λ k. k * n) (times_split h s s l)

pub joined_++ : {X A : Type 0} (f : X → List A) (xs ys : List X) → flat_map f (xs ++ ys) ≡ flat_map f xs ++ flat_map f ys
joined_++ f [] ys = refl
joined_++ f (x ∷ xs) ys = ap (λ t. f x ++ t) (joined_++ f xs ys) ∙ sym (append_assoc (f x) (flat_map f xs) (flat_map f ys))

pub joined-map : {X Y A : Type 0} (f : Y → List A) (g : X → Y) (xs : List X) → flat_map f (map g xs) ≡ flat_map (λ x. f (g x)) xs
joined-map f g [] = refl
joined-map f g (x ∷ xs) = ap (λ t. f (g x) ++ t) (joined-map f g xs)

pub counting_++ : (a n m : ℕ) → range_with_len a (n + m) ≡ range_with_len a n ++ range_with_len (a + n) m
counting_++ a zero m = ap (range_with_len a) (zero-add m) ∙ ap (λ k. range_with_len k m) (sym (add-zero a))
counting_++ a (suc n) m =
    let e : suc n + m ≡ suc (n + m) = omega arith in
    let z : a + 1 + n ≡ a + suc n = omega arith in
    ap (range_with_len a) e ∙ ap (λ t. a ∷ t) (counting_++ (a + 1) n m ∙ ap (λ k. range_with_len (a + 1) n ++ range_with_len k m) z)

pub joined_parts : {A : Type 0} (f : ℕ → List A) (a n m : ℕ) → flat_map f (range_with_len a (n + m)) ≡ flat_map f (range_with_len a n) ++ flat_map f (range_with_len (a + n) m)
joined_parts f a n m = ap (flat_map f) (counting_++ a n m) ∙ joined_++ f (range_with_len a n) (range_with_len (a + n) m)

-- the same parts
pub joined_same : {A : Type 0} (f g : ℕ → List A) (a n : ℕ) → ((k : ℕ) → a ≤ k → k < a + n → f k ≡ g k) → flat_map f (range_with_len a n) ≡ flat_map g (range_with_len a n)
joined_same f g a zero h = refl
joined_same f g a (suc n) h =
    ap (λ t. t ++ flat_map f (range_with_len (a + 1) n)) (h a (omega arith) (omega arith))
    ∙ ap (λ t. g a ++ t) (joined_same f g (a + 1) n (λ k p q. h k (omega arith) (omega arith)))

pub joined_shift : {A : Type 0} (f : ℕ → List A) (a c n : ℕ) → flat_map (λ k. f (a + k)) (range_with_len c n) ≡ flat_map f (range_with_len (a + c) n)
joined_shift f a c zero = refl
joined_shift f a c (suc n) =
    let z : a + (c + 1) ≡ a + c + 1 = omega arith in
    ap (λ t. f (a + c) ++ t) (joined_shift f a (c + 1) n ∙ ap (λ k. flat_map f (range_with_len k n)) z)

-- a list by its places
pub by_place : {A : Type 0} (f : ℕ → List A) (xs : List ℕ) → flat_map (λ k. f (get_or xs k 0)) (range_with_len 0 (length xs)) ≡ flat_map f xs
by_place f xs =
    sym (joined-map f (λ k. get_or xs k 0) (range_with_len 0 (length xs)))
    ∙ ap (flat_map f) (sym (fill_by_all (λ k. get_or xs k 0) xs (length xs) 0 refl (λ k h. refl)))

pub length-joined : {X A : Type 0} (f : X → List A) (n : ℕ) → ((x : X) → length (f x) ≡ n) → (xs : List X) → length (flat_map f xs) ≡ length xs * n
length-joined f n h [] = sym (zero-mul n)
length-joined f n h (x ∷ xs) =
    let a = h x in
    let b = length-joined f n h xs in
    length-append (f x) (flat_map f xs) ∙ omega (arith, times_suc (length xs) n)

pub length_parts : {A : Type 0} (f : ℕ → List A) (n a c : ℕ) → ((k : ℕ) → length (f k) ≡ n) → length (flat_map f (range_with_len a c)) ≡ c * n
length_parts f n a c h = length-joined f n h (range_with_len a c) ∙ ap (λ k. k * n) (length-range_with_len a c)

pub short : (n a : ℕ) (xs : List ℕ) → length (take n (drop a xs)) ≤ n
short n a xs = simp length-take (omega arith)

-- one turn of a loop that writes the part f k, of n bytes, for k from 0 on
pub over_turn :
    (f : ℕ → List ℕ) (n : ℕ) → ((k : ℕ) → length (f k) ≡ n) → (s s1 part : List ℕ) (k q : ℕ) → q ≡ k * n → q + n ≤ length s
    → s1 ≡ over (flat_map f (range_with_len 0 k)) s → part ≡ over (f k) (take (length s1 - q) (drop q s1)) → put_mid q (length s1 - q) s1 part ≡ over (flat_map f (range_with_len 0 (k + 1))) s
over_turn f n len s s1 part k q e fit e1 e2 =
    let l = length_parts f n 0 k len in
    let one : flat_map f (range_with_len (0 + k) 1) ≡ f k = ap (λ j. flat_map f (range_with_len j 1)) (zero-add k) ∙ append-nil (f k) in
    over_next s s1 part (flat_map f (range_with_len 0 k)) (f k) q e1 (omega arith) (omega (arith, len k)) e2
    ∙ ap (λ t. over t s) (sym (joined_parts f 0 k 1 ∙ ap (λ t. flat_map f (range_with_len 0 k) ++ t) one))

pub length-sample_bytes : (m s : ℕ) → length (sample_bytes m s) ≡ sample_width m
length-sample_bytes m s = elim (ltb m 256) as (λ b. length (cond b (s ∷ []) (s / 256 ∷ (s % 256 ∷ []))) ≡ cond b 1 2) [ true ↦ refl | false ↦ refl ]

module _ {K S : Type 0} (o : Ops K S) (deep : (p : K) → length (o.samples p) ≡ o.depth) where
  pub length-pixel_bytes : (m : ℕ) (p : K) → length (pixel_bytes o m p) ≡ pixel_width o m
  length-pixel_bytes m p = length-joined (sample_bytes m) (sample_width m) (length-sample_bytes m) (o.samples p) ∙ ap (λ n. n * sample_width m) (deep p)

  length-decoded_bytes : (m : ℕ) (x : Option K) → length (decoded_bytes o m x) ≡ pixel_width o m
  length-decoded_bytes m (Some p) = length-pixel_bytes m p
  length-decoded_bytes m None = length-replicate (pixel_width o m) 0

  pub length-code_bytes : (m c : ℕ) → length (code_bytes o m c) ≡ pixel_width o m
  length-code_bytes m c = length-decoded_bytes m (o.decode c)

  -- a padded row has one length, whatever its codes
  pub length-row_bytes : (m : ℕ) (pad : K) (side : ℕ) (codes : List ℕ) → length codes ≤ side → length (row_bytes o m pad side codes) ≡ side * pixel_width o m
  length-row_bytes m pad side codes h =
      length-append (flat_map (code_bytes o m) codes) (repeated (pixel_bytes o m pad) (side - length codes))
      ∙ omega (arith, length-joined (code_bytes o m) (pixel_width o m) (length-code_bytes m) codes, length_parts (λ k. pixel_bytes o m pad) (pixel_width o m) 0 (side - length codes) (λ k. length-pixel_bytes m pad), times_split (length codes) side (pixel_width o m) h)

  pub length-rows_bytes : (m : ℕ) (pad : K) (side wide : ℕ) (codes : List ℕ) (n : ℕ) → wide ≤ side → length (rows_bytes o m pad side wide codes n) ≡ n * (side * pixel_width o m)
  length-rows_bytes m pad side wide codes n h =
      length_parts (λ j. row_bytes o m pad side (take wide (drop (j * wide) codes))) (side * pixel_width o m) 0 n
      (λ j. length-row_bytes m pad side (take wide (drop (j * wide) codes)) (omega (arith, short wide (j * wide) codes)))
