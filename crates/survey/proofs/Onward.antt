-- A survey of some places, and then of more.
use Rattle.std.proofs.Common.{◌≡◌, ℕ, zero, suc, ◌+◌, ◌<◌, List, [], ◌∷◌, length, get_or, Some, None, Option, sym, refl, ap, ◌∙◌, add-zero, add-suc, add-one, arith}
use Rattle.std.specs.List.{fold, range_with_len}
use Rattle.std.proofs.lemmas.List.Folds.{fold-map}
use Rattle.std.proofs.lemmas.List.FromFn.{fill_by_all}
use Rattle.pixel.specs.Ops.{Ops}
use Rattle.picture.specs.declared.fault.Cause.{Cause}
use Rattle.picture.specs.declared.fault.Cause.TheVariants.{Missing, Unread, Above, NoPixel}
use Rattle.picture.specs.Places.{Place, pixel, hole, or_else}
use Rattle.picture.specs.Prepare.{coded}
use Rattle.survey.specs.declared.findings.Range.{Range}
use Rattle.survey.specs.declared.findings.Survey.{Survey}
use Rattle.survey.specs.Surveys.{seen, wider, widened, counted, shown, noted, onward}

widened-fold : (r : Option Range) (xs : List ℕ) → fold wider r xs ≡ widened r xs
widened-fold r [] = refl
widened-fold r (x ∷ xs) = widened-fold (wider r x) xs

-- the samples by index
pub fold-wider : (r : Option Range) (xs : List ℕ) → fold (λ r i. wider r (get_or xs i 0)) r (range_with_len 0 (length xs)) ≡ widened r xs
fold-wider r xs =
    let f : ℕ → ℕ = λ i. get_or xs i 0 in
    sym (fold-map wider f r (range_with_len 0 (length xs))) ∙ ap (fold wider r) (sym (fill_by_all f xs (length xs) 0 refl (λ k h. refl))) ∙ widened-fold r xs

pub or_none : {X : Type 0} (x : Option X) → or_else x None ≡ x
or_none None = refl
or_none (Some x) = refl

seen-counted : (c : Cause) (s : Survey) → seen (counted c s) ≡ seen s + 1
seen-counted Missing s = omega arith
seen-counted Unread s = omega arith
seen-counted Above s = omega arith
seen-counted NoPixel s = omega arith

module _ {K S : Type 0} (o : Ops K S) where
  seen-noted : (s : Survey) (p : Place K) → seen (noted o s p) ≡ seen s + 1
  seen-noted s (pixel p) = omega arith
  seen-noted s (hole f) = seen-counted f.cause s

  pub seen_pixel : (s t : Survey) (p : K) → t ≡ shown (o.samples p) s → seen t ≡ seen s + 1
  seen_pixel s t p e = ap seen e ∙ seen-noted s (pixel p)

  -- every place is counted once
  pub seen-onward : (s : Survey) (f : ℕ → Place K) (n : ℕ) → seen (onward o s f n) ≡ seen s + n
  seen-onward s f zero = omega arith
  seen-onward s f (suc n) = omega (arith, seen-noted (onward o s f n) (f n), seen-onward s f n)

  -- a places, and then n more
  pub onward-append : (s : Survey) (f : ℕ → Place K) (a n : ℕ) → onward o s f (a + n) ≡ onward o (onward o s f a) (λ k. f (a + k)) n
  onward-append s f a zero = rw add-zero
  onward-append s f a (suc n) = rw add-suc (ap (λ x. noted o x (f (a + n))) (onward-append s f a n))

  -- the same places give the same survey
  pub onward_same : (s : Survey) (f g : ℕ → Place K) (n : ℕ) → ((k : ℕ) → k < n → f k ≡ g k) → onward o s f n ≡ onward o s g n
  onward_same s f g zero h = refl
  onward_same s f g (suc n) h =
      ap (λ x. noted o x (f n)) (onward_same s f g n (λ k l. h k (omega arith))) ∙ ap (λ x. noted o (onward o s g n) x) (h n (omega arith))

  -- what has a pixel's code is that pixel
  pub coded_pixel : ((p : K) → o.decode (o.code p) ≡ Some p) → (x : Place K) (c : ℕ) (p : K) → coded o x ≡ Some c → o.decode c ≡ Some p → x ≡ pixel p
  coded_pixel d (pixel q) c p e h = let w = d q in cc
  coded_pixel d (hole f) c p e h = cc

  -- one more pixel
  pub onward_pixel : (s t u : Survey) (f : ℕ → Place K) (k : ℕ) (p : K) → t ≡ shown (o.samples p) u → u ≡ onward o s f k → f k ≡ pixel p → t ≡ onward o s f (k + 1)
  onward_pixel s t u f k p a b e =
      a ∙ ap (shown (o.samples p)) b ∙ ap (noted o (onward o s f k)) (sym e) ∙ ap (onward o s f) (sym (add-one k))
