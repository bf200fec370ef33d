-- What a survey finds, place by place in reading order.
use Rattle.std.specs.Prelude.{◌≡◌, ℕ, zero, suc, ◌+◌, ◌*◌, ◌/◌, ◌%◌, ◌<◌, ◌≤◌, min, max, Bool, true, false, cond, List, [], ◌∷◌, length, is_some, Some, None, Option, ◌==◌, slice_index_or}
use Rattle.pixel.specs.Ops.{Ops}
use Rattle.picture.specs.declared.fault.Cause.{Cause}
use Rattle.picture.specs.declared.fault.Cause.TheVariants.{Missing, Unread, Above, NoPixel}
use Rattle.picture.specs.declared.fault.Fault.{Fault}
use Rattle.picture.specs.Refusals.{cause_number}
use Rattle.picture.specs.Places.{Place, pixel, hole, or_else, first_fault}
use Rattle.picture.specs.Images.{Image}
use Rattle.survey.specs.declared.findings.Range.{Range}
use Rattle.survey.specs.declared.findings.Survey.{Survey}

-- nothing seen
abbrev pub fresh : Survey
fresh = record { pixels = 0; range = None; missing = 0; unread = 0; above = 0; no_pixel = 0; first = None }

-- the holes of all causes
abbrev pub holes_of : Survey → ℕ
holes_of s = s.missing + s.unread + s.above + s.no_pixel

-- the places of all sorts
abbrev pub seen : Survey → ℕ
seen s = s.pixels + holes_of s

-- a range with one more sample
abbrev pub wider : Option Range → ℕ → Option Range
wider None x = Some (record { smallest = x; largest = x })
wider (Some r) x = Some (record { smallest = min r.smallest x; largest = max r.largest x })

abbrev pub widened : Option Range → List ℕ → Option Range
widened r [] = r
widened r (x ∷ xs) = widened (wider r x) xs

-- one more hole of this cause
abbrev pub counted : Cause → Survey → Survey
counted Missing s = record { pixels = s.pixels; range = s.range; missing = s.missing + 1; unread = s.unread; above = s.above; no_pixel = s.no_pixel; first = s.first }
counted Unread s = record { pixels = s.pixels; range = s.range; missing = s.missing; unread = s.unread + 1; above = s.above; no_pixel = s.no_pixel; first = s.first }
counted Above s = record { pixels = s.pixels; range = s.range; missing = s.missing; unread = s.unread; above = s.above + 1; no_pixel = s.no_pixel; first = s.first }
counted NoPixel s = record { pixels = s.pixels; range = s.range; missing = s.missing; unread = s.unread; above = s.above; no_pixel = s.no_pixel + 1; first = s.first }

-- the first fault stays
abbrev pub faulted : Option Fault → Survey → Survey
faulted f s = record { pixels = s.pixels; range = s.range; missing = s.missing; unread = s.unread; above = s.above; no_pixel = s.no_pixel; first = or_else s.first f }

-- one more pixel, with these samples
abbrev pub shown : List ℕ → Survey → Survey
shown xs s = record { pixels = s.pixels + 1; range = widened s.range xs; missing = s.missing; unread = s.unread; above = s.above; no_pixel = s.no_pixel; first = s.first }

-- x lies in the range
abbrev pub Between : Option Range → ℕ → Type 0
Between None x = ⊥
Between (Some r) x = (r.smallest ≤ x) × (x ≤ r.largest)

-- P holds of both ends of the range, if there is one
abbrev pub Ends : (ℕ → Type 0) → Option Range → Type 0
Ends P None = Unit {0}
Ends P (Some r) = P r.smallest × P r.largest

-- as many of these places as the picture has
abbrev pub up_to : {K : Type 0} → Image K → ℕ → ℕ
up_to i places = min places (i.width * i.height)

-- the k-th place of a picture in reading order
abbrev pub reading : {K : Type 0} → Image K → ℕ → Place K
reading i k = i.at (k % i.width) (k / i.width)

-- the place is a pixel
abbrev pub is_pixel : {K : Type 0} → Place K → Bool
is_pixel (pixel p) = true
is_pixel (hole f) = false

-- the place is a hole of this cause
abbrev pub is_hole : {K : Type 0} → Cause → Place K → Bool
is_hole c (pixel p) = false
is_hole c (hole f) = cause_number c == cause_number f.cause

-- how many of the first n places pass a test
abbrev pub tally : {K : Type 0} → (Place K → Bool) → (ℕ → Place K) → ℕ → ℕ
tally t f zero = 0
tally t f (suc n) = tally t f n + cond (t (f n)) 1 0

module _ {K S : Type 0} (o : Ops K S) where
  -- one more place
  abbrev pub noted : Survey → Place K → Survey
  noted s (pixel p) = shown (o.samples p) s
  noted s (hole f) = faulted (Some f) (counted f.cause s)

  -- n more places
  abbrev pub onward : Survey → (ℕ → Place K) → ℕ → Survey
  onward s f zero = s
  onward s f (suc n) = noted (onward s f n) (f n)

  -- the first n places of a picture
  abbrev pub surveyed : Image K → ℕ → Survey
  surveyed i n = onward fresh (reading i) n

  -- x is a sample of a pixel among the first n places
  pub record Occurs (f : ℕ → Place K) (n x : ℕ) : Type 0 where
    pub place : ℕ
    pub below : place < n
    pub shows : K
    pub there : f place ≡ pixel shows
    pub index : ℕ
    pub deep : index < length (o.samples shows)
    pub sample : slice_index_or (o.samples shows) index 0 ≡ x

  -- what a survey says of the first n places
  pub record Account (f : ℕ → Place K) (n : ℕ) (s : Survey) : Type 0 where
    -- each place is counted once
    pub counts : s.pixels + s.missing + s.unread + s.above + s.no_pixel ≡ n
    -- under what it is
    pub pixels : s.pixels ≡ tally is_pixel f n
    pub missing : s.missing ≡ tally (is_hole Missing) f n
    pub unread : s.unread ≡ tally (is_hole Unread) f n
    pub above : s.above ≡ tally (is_hole Above) f n
    pub others : s.no_pixel ≡ tally (is_hole NoPixel) f n
    -- the first hole tells its fault
    pub first : s.first ≡ first_fault f n
    -- where there is a pixel there is a range
    pub ranged : (k : ℕ) (p : K) → k < n → f k ≡ pixel p → is_some s.range ≡ true
    -- every sample of every pixel lies in the range
    pub within : (x : ℕ) → Occurs f n x → Between s.range x
    -- and both ends of the range are such samples
    pub ends : Ends (Occurs f n) s.range
