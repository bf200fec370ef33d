-- What a survey says of the places that it saw.
use Rattle.std.proofs.Common.{◌≡◌, ℕ, zero, suc, ◌+◌, ◌<◌, ◌≤◌, min, max, Bool, true, cond, eqb, ◌⊎◌, List, [], ◌∷◌, length, get_or, is_some, Some, None, Option, sym, refl, ap, ◌∙◌, subst, inl, inr, ⊎_elim, arith}
use Rattle.std.proofs.lemmas.Bool.{cases_lt}
use Rattle.pixel.specs.Ops.{Ops}
use Rattle.picture.specs.declared.fault.Cause.{Cause}
use Rattle.picture.specs.declared.fault.Cause.TheVariants.{Missing, Unread, Above, NoPixel}
use Rattle.picture.specs.Refusals.{cause_number}
use Rattle.picture.specs.Places.{Place, pixel, hole, fault_of, or_else, first_fault}
use Rattle.survey.specs.declared.findings.Range.{Range}
use Rattle.survey.specs.declared.findings.Survey.{Survey}
use Rattle.survey.specs.Surveys.{fresh, wider, widened, counted, Between, Ends, is_pixel, is_hole, tally, noted, onward, Occurs, Account}
use Rattle.survey.proofs.Onward.{or_none, seen-onward}

-- a wider range has what the range had
between_wider : (r : Option Range) (x y : ℕ) → Between r x → Between (wider r y) x
between_wider None x y b = absurd b
between_wider (Some r) x y b = (omega (arith, b.0), omega (arith, b.1))

-- and the new sample
between_here : (r : Option Range) (y : ℕ) → Between (wider r y) y
between_here None y = (omega arith, omega arith)
between_here (Some r) y = (omega arith, omega arith)

between_widened : (r : Option Range) (x : ℕ) (ys : List ℕ) → Between r x → Between (widened r ys) x
between_widened r x [] b = b
between_widened r x (y ∷ ys) b = between_widened (wider r y) x ys (between_wider r x y b)

between_each : (r : Option Range) (ys : List ℕ) (j : ℕ) → j < length ys → Between (widened r ys) (get_or ys j 0)
between_each r [] j h = absurd (omega arith)
between_each r (y ∷ ys) zero h = between_widened (wider r y) y ys (between_here r y)
between_each r (y ∷ ys) (suc j) h = between_each (wider r y) ys j (omega arith)

min_either : (a b : ℕ) → (min a b ≡ a) ⊎ (min a b ≡ b)
min_either a b = ⊎_elim (λ h. inl (omega arith)) (λ h. inr (omega arith)) (cases_lt a b)

max_either : (a b : ℕ) → (max a b ≡ a) ⊎ (max a b ≡ b)
max_either a b = ⊎_elim (λ h. inr (omega arith)) (λ h. inl (omega arith)) (cases_lt a b)

ends_wider : (P : ℕ → Type 0) (r : Option Range) (y : ℕ) → Ends P r → P y → Ends P (wider r y)
ends_wider P None y e p = (p, p)
ends_wider P (Some r) y e p = (
  ⊎_elim (λ q. subst P (sym q) e.0) (λ q. subst P (sym q) p) (min_either r.smallest y),
  ⊎_elim (λ q. subst P (sym q) e.1) (λ q. subst P (sym q) p) (max_either r.largest y),
)

ends_widened : (P : ℕ → Type 0) (r : Option Range) (ys : List ℕ) → Ends P r → ((j : ℕ) → j < length ys → P (get_or ys j 0)) → Ends P (widened r ys)
ends_widened P r [] e h = e
ends_widened P r (y ∷ ys) e h =
    ends_widened P (wider r y) ys (ends_wider P r y e (h 0 (omega arith))) (λ j l. h (suc j) (omega arith))

ends_weaker : (P Q : ℕ → Type 0) (r : Option Range) → ((x : ℕ) → P x → Q x) → Ends P r → Ends Q r
ends_weaker P Q None h e = tt
ends_weaker P Q (Some r) h e = (h r.smallest e.0, h r.largest e.1)

some_between : (r : Option Range) (x : ℕ) → Between r x → is_some r ≡ true
some_between None x b = absurd b
some_between (Some r) x b = refl

counted_range : (c : Cause) (s : Survey) → (counted c s).range ≡ s.range
counted_range Missing s = refl
counted_range Unread s = refl
counted_range Above s = refl
counted_range NoPixel s = refl

counted_first : (c : Cause) (s : Survey) → (counted c s).first ≡ s.first
counted_first Missing s = refl
counted_first Unread s = refl
counted_first Above s = refl
counted_first NoPixel s = refl

counted_pixels : (c : Cause) (s : Survey) → (counted c s).pixels ≡ s.pixels + 0
counted_pixels Missing s = omega arith
counted_pixels Unread s = omega arith
counted_pixels Above s = omega arith
counted_pixels NoPixel s = omega arith

counted_missing : (c : Cause) (s : Survey) → (counted c s).missing ≡ s.missing + cond (eqb (cause_number Missing) (cause_number c)) 1 0
counted_missing Missing s = refl
counted_missing Unread s = omega arith
counted_missing Above s = omega arith
counted_missing NoPixel s = omega arith

counted_unread : (c : Cause) (s : Survey) → (counted c s).unread ≡ s.unread + cond (eqb (cause_number Unread) (cause_number c)) 1 0
counted_unread Missing s = omega arith
counted_unread Unread s = refl
counted_unread Above s = omega arith
counted_unread NoPixel s = omega arith

counted_above : (c : Cause) (s : Survey) → (counted c s).above ≡ s.above + cond (eqb (cause_number Above) (cause_number c)) 1 0
counted_above Missing s = omega arith
counted_above Unread s = omega arith
counted_above Above s = refl
counted_above NoPixel s = omega arith

counted_no_pixel : (c : Cause) (s : Survey) → (counted c s).no_pixel ≡ s.no_pixel + cond (eqb (cause_number NoPixel) (cause_number c)) 1 0
counted_no_pixel Missing s = omega arith
counted_no_pixel Unread s = omega arith
counted_no_pixel Above s = omega arith
counted_no_pixel NoPixel s = refl

module _ {K S : Type 0} (o : Ops K S) where
  tally_is : (get : Survey → ℕ) (t : Place K → Bool) → get fresh ≡ 0 → ((s : Survey) (p : Place K) → get (noted o s p) ≡ get s + cond (t p) 1 0)
      → (f : ℕ → Place K) (n : ℕ) → get (onward o fresh f n) ≡ tally t f n
  tally_is get t z h f zero = z
  tally_is get t z h f (suc n) = h (onward o fresh f n) (f n) ∙ ap (λ x. x + cond (t (f n)) 1 0) (tally_is get t z h f n)

  noted_pixels : (s : Survey) (p : Place K) → (noted o s p).pixels ≡ s.pixels + cond (is_pixel p) 1 0
  noted_pixels s (pixel p) = refl
  noted_pixels s (hole f) = counted_pixels f.cause s

  noted_missing : (s : Survey) (p : Place K) → (noted o s p).missing ≡ s.missing + cond (is_hole Missing p) 1 0
  noted_missing s (pixel p) = omega arith
  noted_missing s (hole f) = counted_missing f.cause s

  noted_unread : (s : Survey) (p : Place K) → (noted o s p).unread ≡ s.unread + cond (is_hole Unread p) 1 0
  noted_unread s (pixel p) = omega arith
  noted_unread s (hole f) = counted_unread f.cause s

  noted_above : (s : Survey) (p : Place K) → (noted o s p).above ≡ s.above + cond (is_hole Above p) 1 0
  noted_above s (pixel p) = omega arith
  noted_above s (hole f) = counted_above f.cause s

  noted_no_pixel : (s : Survey) (p : Place K) → (noted o s p).no_pixel ≡ s.no_pixel + cond (is_hole NoPixel p) 1 0
  noted_no_pixel s (pixel p) = omega arith
  noted_no_pixel s (hole f) = counted_no_pixel f.cause s

  noted_first : (s : Survey) (p : Place K) → (noted o s p).first ≡ or_else s.first (fault_of p)
  noted_first s (pixel p) = sym (or_none s.first)
  noted_first s (hole f) = ap (λ x. or_else x (Some f)) (counted_first f.cause s)

  first_is : (f : ℕ → Place K) (n : ℕ) → (onward o fresh f n).first ≡ first_fault f n
  first_is f zero = refl
  first_is f (suc n) = noted_first (onward o fresh f n) (f n) ∙ ap (λ x. or_else x (fault_of (f n))) (first_is f n)

  more : (f : ℕ → Place K) (n x : ℕ) → Occurs o f n x → Occurs o f (suc n) x
  more f n x w = record { place = w.place; below = omega arith; shows = w.shows; there = w.there; index = w.index; deep = w.deep; sample = w.sample }

  -- a sample among n + 1 places is among the n, or of the last
  last : (f : ℕ → Place K) (n x : ℕ) → Occurs o f (suc n) x → Occurs o f n x ⊎ ((p : K) × (f n ≡ pixel p) × ((j : ℕ) × (j < length (o.samples p)) × (get_or (o.samples p) j 0 ≡ x)))
  last f n x w =
      ⊎_elim (λ h. inl (record { place = w.place; below = h; shows = w.shows; there = w.there; index = w.index; deep = w.deep; sample = w.sample }))
      (λ h. let e : n ≡ w.place = omega (arith, w.below) in inr (w.shows, ap f e ∙ w.there, (w.index, w.deep, w.sample)))
      (cases_lt w.place n)

  noted_within : (s : Survey) (q : Place K) (x : ℕ) → Between s.range x → Between (noted o s q).range x
  noted_within s (pixel p) x b = between_widened s.range x (o.samples p) b
  noted_within s (hole f) x b = subst (λ r. Between r x) (sym (counted_range f.cause s)) b

  within_is : (f : ℕ → Place K) (n x : ℕ) → Occurs o f n x → Between (onward o fresh f n).range x
  within_is f zero x w = absurd (omega (arith, w.below))
  within_is f (suc n) x w =
      let s = onward o fresh f n in
      ⊎_elim (λ b. noted_within s (f n) x (within_is f n x b))
      (λ b. subst (λ q. Between (noted o s q).range x) (sym b.1)
      (subst (Between (widened s.range (o.samples b.0))) b.2.2 (between_each s.range (o.samples b.0) b.2.0 b.2.1)))
      (last f n x w)

  noted_ends : (P : ℕ → Type 0) (s : Survey) (q : Place K) → Ends P s.range
      → ((p : K) → q ≡ pixel p → (j : ℕ) → j < length (o.samples p) → P (get_or (o.samples p) j 0)) → Ends P (noted o s q).range
  noted_ends P s (pixel p) e h = ends_widened P s.range (o.samples p) e (h p refl)
  noted_ends P s (hole f) e h = subst (Ends P) (sym (counted_range f.cause s)) e

  ends_is : (f : ℕ → Place K) (n : ℕ) → Ends (Occurs o f n) (onward o fresh f n).range
  ends_is f zero = tt
  ends_is f (suc n) =
      let s = onward o fresh f n in
      noted_ends (Occurs o f (suc n)) s (f n) (ends_weaker (Occurs o f n) (Occurs o f (suc n)) s.range (more f n) (ends_is f n))
      (λ p e j h. record { place = n; below = omega arith; shows = p; there = e; index = j; deep = h; sample = refl })

  -- the account of a survey; a pixel has a sample
  pub account : ((p : K) → 1 ≤ length (o.samples p)) → (f : ℕ → Place K) (n : ℕ) → Account o f n (onward o fresh f n)
  account d f n = record {
    counts = omega (arith, seen-onward o fresh f n);
    pixels = tally_is (λ s. s.pixels) is_pixel refl noted_pixels f n;
    missing = tally_is (λ s. s.missing) (is_hole Missing) refl noted_missing f n;
    unread = tally_is (λ s. s.unread) (is_hole Unread) refl noted_unread f n;
    above = tally_is (λ s. s.above) (is_hole Above) refl noted_above f n;
    others = tally_is (λ s. s.no_pixel) (is_hole NoPixel) refl noted_no_pixel f n;
    first = first_is f n;
    ranged = λ k p h e. some_between (onward o fresh f n).range (get_or (o.samples p) 0 0)
        (within_is f n (get_or (o.samples p) 0 0) (record { place = k; below = h; shows = p; there = e; index = 0; deep = omega (arith, d p); sample = refl }));
    within = within_is f n;
    ends = ends_is f n;
  }
