-- A survey goes on by a part of a row.
use Rattle.std.proofs.Common.{◌≡◌, ℕ, ◌+◌, ◌*◌, ◌/◌, ◌%◌, ◌<◌, ◌≤◌, true, List, length, get_or, take, is_some, Some, sym, ap, ◌∙◌, arith}
use Rattle.std.proofs.lemmas.List.{length-take-le, get_or-take}
use Rattle.std.proofs.lemmas.Nat.{div-mul-add, mod-mul-add, div-add-mod', mul-le}
use Rattle.pixel.specs.Ops.{Ops}
use Rattle.picture.specs.declared.rect.Rect.{Rect}
use Rattle.picture.specs.Places.{Place, pixel, hole}
use Rattle.picture.specs.Images.{Image}
use Rattle.picture.specs.Prepare.{lined, coded, Shown}
use Rattle.survey.specs.declared.findings.Survey.{Survey}
use Rattle.survey.specs.Surveys.{fresh, seen, reading, onward, surveyed}
use Rattle.survey.proofs.Onward.{seen-onward, onward-append, onward_same}

-- a part of a row in reading order
row_reading : {K : Type 0} (i : Image K) (place k : ℕ) → place % i.width + k < i.width → reading i (place + k) ≡ lined i (place % i.width) (place / i.width) k
row_reading i place k h =
    let w = i.width in
    let e : place + k ≡ place / w * w + (place % w + k) = omega (arith, div-add-mod' place w) in
    ap (reading i) e ∙ ap (λ x. i.at x ((place / w * w + (place % w + k)) / w)) (mod-mul-add (place / w) w (place % w + k) h)
    ∙ ap (λ y. i.at (place % w + k) y) (div-mul-add (place / w) w (place % w + k) h)

-- a part of the row of a place; the picture may be another value of the same meaning
pub record Part {K : Type 0} (i j : Image K) (place : ℕ) (r : Rect) : Type 0 where
  pub same : j ≡ i
  pub left : r.left ≡ place % i.width
  pub top : r.top ≡ place / i.width
  pub fits : r.left + r.width ≤ i.width

part-reading : {K : Type 0} (i j : Image K) (place : ℕ) (r : Rect) (k : ℕ) → Part i j place r → k < r.width → reading i (place + k) ≡ lined j r.left r.top k
part-reading i j place r k h l =
    row_reading i place k (omega (arith, h.left, h.fits)) ∙ ap (λ x. lined i x (place / i.width) k) (sym h.left)
    ∙ ap (λ y. lined i r.left y k) (sym h.top) ∙ ap (λ x. lined x r.left r.top k) (sym h.same)

-- a picture has not too many places
pub few : (w h count : ℕ) → w ≤ 65535 → h ≤ 65535 → count ≤ w * h → count ≤ 4294836225
few w h count a b c = omega (arith, mul-le w h 65535 65535 a b)

module _ {K S : Type 0} (o : Ops K S) where
  pub seen-surveyed : (i : Image K) (n : ℕ) → seen (surveyed o i n) ≡ n
  seen-surveyed i n = omega (arith, seen-onward o fresh (reading i) n)

  -- the places of a part
  part-surveyed : (i j : Image K) (place : ℕ) (r : Rect) → Part i j place r → onward o (surveyed o i place) (lined j r.left r.top) r.width ≡ surveyed o i (place + r.width)
  part-surveyed i j place r h =
      sym (onward-append o fresh (reading i) place r.width
      ∙ onward_same o (surveyed o i place) (λ k. reading i (place + k)) (lined j r.left r.top) r.width (λ k l. part-reading i j place r k h l))

  -- the codes that a prepare left are those of pixels
  coded_some : ((p : K) → o.decode (o.code p) ≡ Some p) → (x : Place K) (c : ℕ) → coded o x ≡ Some c → is_some (o.decode c) ≡ true
  coded_some d (pixel q) c e = let h : c ≡ o.code q = cc in ap (λ y. is_some (o.decode y)) h ∙ ap is_some (d q)
  coded_some d (hole f) c e = cc

  taken-shown : (f : ℕ → Place K) (n : ℕ) (codes : List ℕ) → n ≤ length codes → Shown o f n codes → Shown o f (length (take n codes)) (take n codes)
  taken-shown f n codes h s k l =
      let e = length-take-le n codes h in
      s k (omega arith) ∙ ap Some (sym (get_or-take n codes k 0 (omega arith)))

  pub pixels_more : (i j : Image K) (place : ℕ) (r : Rect) (s t : Survey) (codes : List ℕ) → Part i j place r → r.width ≤ length codes
      → s ≡ surveyed o i place → Shown o (lined j r.left r.top) r.width codes
      → ((f : ℕ → Place K) → Shown o f (length (take r.width codes)) (take r.width codes) → t ≡ onward o s f (length (take r.width codes)))
      → t ≡ surveyed o i (place + r.width)
  pixels_more i j place r s t codes h l e c m =
      let f : ℕ → Place K = lined j r.left r.top in
      m f (taken-shown f r.width codes l c) ∙ ap (onward o s f) (length-take-le r.width codes l) ∙ ap (λ x. onward o x f r.width) e ∙ part-surveyed i j place r h

  -- the codes of a part are pixels' codes
  pub taken_some : ((p : K) → o.decode (o.code p) ≡ Some p) → (f : ℕ → Place K) (n : ℕ) (codes : List ℕ) → n ≤ length codes → Shown o f n codes
      → (k : ℕ) → k < length (take n codes) → is_some (o.decode (get_or (take n codes) k 0)) ≡ true
  taken_some d f n codes h s k l = coded_some d (f k) (get_or (take n codes) k 0) (taken-shown f n codes h s k l)
