-- Samples and the code that they join to.
use Rattle.std.specs.Prelude.{◌≡◌, ℕ, zero, suc, ◌+◌, ◌*◌, ◌^◌, ◌<◌, ◌≤◌, Bool, true, false, leb, ◌&&◌, map, List, [], ◌∷◌, ◌++◌, length, None, nat_le, slice_index, refl}
use Rattle.std.proofs.Common.{sym, ap, ◌∙◌, arith}
use Rattle.std.specs.List.{list_all, range_with_len}
use Rattle.std.proofs.lemmas.List.FromFn.{fill_by_all, map-range_with_len_more, length-map-range_with_len, get_or-map-range_with_len}
use Rattle.std.proofs.lemmas.Bool.{and_from, false_from_ne_true, le-leb, cond-false}
use Rattle.std.proofs.lemmas.Bool.Decides.{nat_tests}
use Rattle.pixel.specs.Ops.{Ops, Under, behind, joined}
use Rattle.source.specs.Raster.{sample_of, samples_of, under, code_of}

pub under_push : (m : ℕ) (xs : List ℕ) (x : ℕ) → under m xs ≡ true → x ≤ m → under m (xs ++ (x ∷ [])) ≡ true
under_push m [] x u h = and_from (nat_le x m) true (le-leb x m h) refl
under_push m (y ∷ ys) x u h =
    let a : leb y m ≡ true = grind (arith, nat_tests) in
    let b : under m ys ≡ true = grind (arith, nat_tests) in
    and_from (nat_le y m) (under m (ys ++ (x ∷ []))) a (under_push m ys x b h)

pub behind_push : (c : ℕ) (xs : List ℕ) (x : ℕ) → behind c (xs ++ (x ∷ [])) ≡ behind c xs * 65536 + x
behind_push c [] x = refl
behind_push c (y ∷ ys) x = behind_push (c * 65536 + y) ys x

pub under_at : (m : ℕ) (xs : List ℕ) → under m xs ≡ true → Under m xs
under_at m [] u i = omega arith
under_at m (y ∷ ys) u zero = grind (arith, nat_tests)
under_at m (y ∷ ys) u (suc i) = let b : under m ys ≡ true = grind (arith, nat_tests) in under_at m ys b i

pub joined_small : (m : ℕ) (xs : List ℕ) → under m xs ≡ true → m ≤ 65535 → length xs ≤ 2 → joined xs < 2 ^ 32
joined_small m [] u h l = omega arith
joined_small m (x ∷ []) u h l = let a = under_at m (x ∷ []) u 0 in omega arith
joined_small m (x ∷ y ∷ []) u h l = let a = under_at m (x ∷ y ∷ []) u 0 in let b = under_at m (x ∷ y ∷ []) u 1 in omega arith
joined_small m (x ∷ y ∷ z ∷ zs) u h l = absurd (omega arith)

module _ (w : Bool) (byte : ℕ → ℕ) where
  pub samples_more : (k : ℕ) → samples_of w byte (k + 1) ≡ samples_of w byte k ++ (sample_of w byte k ∷ [])
  samples_more k = map-range_with_len_more (sample_of w byte) 0 k k (omega arith)

  pub samples_long : (k : ℕ) → length (samples_of w byte k) ≡ k
  samples_long k = length-map-range_with_len (sample_of w byte) 0 k

  samples_at : (d k : ℕ) → k < d → slice_index (samples_of w byte d) k ≡ sample_of w byte k
  samples_at d k h = get_or-map-range_with_len (sample_of w byte) 0 d k k 0 h (omega arith)

  -- the samples so far leave room for one more
  pub code_small : (m k code : ℕ) → k ≤ 2 → m ≤ 65535 → under m (samples_of w byte k) ≡ true → code ≡ joined (samples_of w byte k) → code < 2 ^ 32
  code_small m k code few fits u e =
      let l : length (samples_of w byte k) ≤ 2 = omega (arith, samples_long k) in omega (arith, e, joined_small m (samples_of w byte k) u fits l)

  -- one sample above maxval is enough
  pub code_none : {K S : Type 0} (o : Ops K S) (m k : ℕ) → k < o.depth → m < sample_of w byte k → code_of o w m byte ≡ None
  code_none o m k h l =
      cond-false (under m (samples_of w byte o.depth)) _ _
      (false_from_ne_true (under m (samples_of w byte o.depth)) (λ e. let a = under_at m (samples_of w byte o.depth) e k in omega (arith, samples_at o.depth k h)))

pub under_of : (m : ℕ) (xs : List ℕ) → ((j : ℕ) → j < length xs → slice_index xs j ≤ m) → under m xs ≡ true
under_of m [] h = refl
under_of m (x ∷ xs) h = and_from (nat_le x m) (under m xs) (le-leb x m (h 0 (omega arith))) (under_of m xs (λ j l. h (suc j) (omega arith)))

pub under_not : (m : ℕ) (xs : List ℕ) (k : ℕ) → m < slice_index xs k → under m xs ≡ false
under_not m xs k h = false_from_ne_true (under m xs) (λ e. let a = under_at m xs e k in omega arith)

under_list : (m : ℕ) (f : ℕ → ℕ) (ks : List ℕ) → list_all (λ k. nat_le (f k) m) ks ≡ under m (map f ks)
under_list m f [] = refl
under_list m f (k ∷ ks) = ap (λ b. nat_le (f k) m && b) (under_list m f ks)

-- asked of the sample of each index
pub under_each : (m d : ℕ) (xs : List ℕ) → length xs ≡ d → list_all (λ k. nat_le (slice_index xs k) m) (range_with_len 0 d) ≡ under m xs
under_each m d xs e =
    under_list m (λ k. slice_index xs k) (range_with_len 0 d) ∙ ap (under m) (sym (fill_by_all (λ k. slice_index xs k) xs d 0 e (λ k h. refl)))
