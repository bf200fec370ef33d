-- What a window over a prepared region comes to.
use Rattle.std.proofs.Common.{◌≡◌, ℕ, ◌+◌, ◌-◌, ◌*◌, ◌/◌, ◌%◌, ◌<◌, ◌≤◌, ◌⊎◌, List, ℤ, Some, None, sym, ap, ◌∙◌, inl, inr, ⊎_elim, mul-le-mul_right, mul_comm, add-mul, one-mul, arith, rules}
use Rattle.std.proofs.lemmas.Nat.{div-mul-add, mod-mul-add, mul-add-lt, div_below, mod_below, div-add-mod'}
use Rattle.pixel.specs.Ops.{Ops}
use Rattle.picture.specs.declared.fault.Fault.{Fault}
use Rattle.picture.specs.declared.rect.Rect.{Rect}
use Rattle.picture.specs.Compose.{pixel_or, summed, taken, tapped, unless}
use Rattle.picture.specs.Images.{Image}
use Rattle.picture.specs.Places.{pixel, hole, fault_of, first_fault}
use Rattle.picture.specs.Prepare.{Shown, area, nth}
use Rattle.picture.specs.Region.{Within}
use Rattle.picture.specs.Steps.{Tap, Formula, black, white, copied, mixed}
use Rattle.picture.proofs.Faults.{first_same, shown_clean}
use Rattle.layer.specs.declared.aim.Carry.{Carry}
use Rattle.layer.specs.declared.aim.Lens.{Lens}
use Rattle.layer.specs.Aims.{Carried, Mixed, Mixes, lens_column, lens_pixel, lens_row, lens_spot, spot, walked}
use Rattle.layer.proofs.Asking.{reads_pixel}
use Rattle.layer.proofs.Laying.{spot_below}
use Rattle.layer.proofs.Holes.{Covers, each_none, first_covered, none_each}
use Rattle.layer.proofs.Reading.{column_inside, spot_at, spot-inside}
use Rattle.layer.proofs.Summing.{summed_same}

-- the place that stands at a spot
pub spot-nth : {K : Type 0} (b : Image K) (r : Rect) (x y : ℕ) → Within r x y → nth b r (spot r x y) ≡ b.at x y
spot-nth b r x y w =
    let lx : x - r.left < r.width = omega (arith, w.left, w.right) in
    let ex : r.left + (x - r.left) ≡ x = omega (arith, w.left) in
    let ey : r.top + (y - r.top) ≡ y = omega (arith, w.top) in
    ap (λ z. b.at (r.left + z) (r.top + spot r x y / r.width)) (mod-mul-add (y - r.top) r.width (x - r.left) lx)
    ∙ ap (λ z. b.at (r.left + (x - r.left)) (r.top + z)) (div-mul-add (y - r.top) r.width (x - r.left) lx)
    ∙ ap (λ z. b.at z (r.top + (y - r.top))) ex ∙ ap (λ z. b.at x z) ey

-- a window's places cover its region, if it is no larger
pub covers : (l : Lens) → 1 ≤ l.columns → l.at.width + l.before ≤ l.columns → l.at.height + l.above ≤ l.rows → Covers (lens_spot l 0 0) (l.columns * l.rows) (area l.at)
covers l some wide high = record {
  inside = λ k h. spot-inside l 0 0 k;
  sooner = λ k j h lt. sooner k j h lt;
  onto = λ j h.
      let w : 0 < l.at.width = l.at.wide in
      let cj = mod_below j l.at.width w in
      let rj = div_below j l.at.width l.at.height w (omega (arith, mul_comm l.at.width l.at.height)) in
      let q = j % l.at.width + l.before in
      let r = j / l.at.width + l.above in (
        r * l.columns + q,
        mul-add-lt r l.columns q l.rows (omega arith) (omega arith),
        spot_at l 0 0 q r (omega arith) ∙ at (j % l.at.width) (j / l.at.width) cj rj ∙ div-add-mod' j l.at.width,
      );
}
  where
    at : (a b : ℕ) → a < l.at.width → b < l.at.height → lens_row l 0 (b + l.above) * l.at.width + lens_column l 0 (a + l.before) ≡ b * l.at.width + a
    at a b la lb =
        let ec : lens_column l 0 (a + l.before) ≡ a = omega arith in
        let er : lens_row l 0 (b + l.above) ≡ b = omega arith in
        ap (λ z. z * l.at.width + lens_column l 0 (a + l.before)) er ∙ ap (λ z. b * l.at.width + z) ec

    order : (w a b c d : ℕ) → a * w + b < c * w + d → b < w → d < w → (a < c) ⊎ ((a ≡ c) × (b < d))
    order w a b c d h lb ld = ⊎_elim (λ lt. inl lt) (λ ge. ⊎_elim (λ gt. absurd (omega (arith, mul-le-mul_right w gt, add-mul c 1 w, one-mul w))) (λ eq. inr (eq, omega (arith, ap (λ z. z * w) eq))) (same_or a c ge)) (below_or a c)
      where
        below_or : (a c : ℕ) → (a < c) ⊎ (c ≤ a)
        below_or a c = search rules

        same_or : (a c : ℕ) → c ≤ a → (c + 1 ≤ a) ⊎ (a ≡ c)
        same_or a c h = search rules

    sooner : (k j : ℕ) → k < l.columns * l.rows → j < lens_spot l 0 0 k → (i : ℕ) × (i < k) × (lens_spot l 0 0 i ≡ j)
    sooner k j h lt =
        let w : 0 < l.at.width = l.at.wide in
        let m : j < area l.at = omega (arith, spot-inside l 0 0 k) in
        let a = j % l.at.width in
        let b = j / l.at.width in
        let la = mod_below j l.at.width w in
        let lb = div_below j l.at.width l.at.height w (omega (arith, mul_comm l.at.width l.at.height)) in
        let s : b * l.at.width + a ≡ j = div-add-mod' j l.at.width in
        let kd : k / l.columns * l.columns + k % l.columns ≡ k = div-add-mod' k l.columns in
        let kq : k % l.columns < l.columns = mod_below k l.columns some in
        ⊎_elim
        (λ up.
        let r : b + l.above + 1 ≤ k / l.columns = omega arith in (
          (b + l.above) * l.columns + (a + l.before),
          omega (arith, mul-le-mul_right l.columns r, add-mul (b + l.above) 1 l.columns, one-mul l.columns),
          spot_at l 0 0 (a + l.before) (b + l.above) (omega arith) ∙ at a b la lb ∙ s,
        ))
        (λ on.
        let ec : lens_column l 0 (a + l.before) ≡ a = omega arith in (
          k / l.columns * l.columns + (a + l.before),
          omega (arith, on.1),
          spot_at l 0 0 (a + l.before) (k / l.columns) (omega arith)
              ∙ ap (λ z. z * l.at.width + lens_column l 0 (a + l.before)) (sym on.0) ∙ ap (λ z. b * l.at.width + z) ec ∙ s,
        ))
        (order l.at.width b a (lens_row l 0 (k / l.columns)) (lens_column l 0 (k % l.columns)) (omega arith) la (column_inside l 0 (k % l.columns)))

module _ {K S : Type 0} (o : Ops K S) (b : Image K) where
  -- the k-th tap of a window is a place of the region
  tap_nth : (l : Lens) (w : ℕ → ℤ) (s : ℕ) (f : ℤ) (i j n : ℕ) (tap : ℕ → Tap) (scale : ℕ) (offset : ℤ) → Mixes l w s f i j n tap scale offset → (k : ℕ) → k < n
      → tapped b.at tap k ≡ nth b l.at (lens_spot l i j k)
  tap_nth l w s f i j n tap scale offset m k h =
      let c = lens_column l i (k % l.columns) in
      let r = lens_row l j (k / l.columns) in
      let lc = column_inside l i (k % l.columns) in
      ap (λ z. b.at z (tap k).row) (m.columns k h) ∙ ap (λ z. b.at (l.at.left + c) z) (m.rows k h)
      ∙ sym (ap (λ z. b.at (l.at.left + z) (l.at.top + (r * l.at.width + c) / l.at.width)) (mod-mul-add r l.at.width c lc)
      ∙ ap (λ z. b.at (l.at.left + c) (l.at.top + z)) (div-mul-add r l.at.width c lc))

  -- where the region is shown, a window comes to its sum
  mixes_pixel : (d : (p : K) → o.decode (o.code p) ≡ Some p) (l : Lens) (w : ℕ → ℤ) (s : ℕ) (f : ℤ) (codes : List ℕ) (i j n : ℕ) (tap : ℕ → Tap) (scale : ℕ) (offset : ℤ)
      → Shown o (nth b l.at) (area l.at) codes → Mixes l w s f i j n tap scale offset
      → taken o b.maxval b.at (mixed n tap scale offset) ≡ pixel (o.finish (summed o (lens_pixel o codes l i j) w (l.columns * l.rows)) s f b.maxval)
  mixes_pixel d l w s f codes i j n tap scale offset sh m =
      let each : (k : ℕ) → k < n → tapped b.at tap k ≡ nth b l.at (lens_spot l i j k) = tap_nth l w s f i j n tap scale offset m in
      let clean = shown_clean o (nth b l.at) (area l.at) codes sh in
      let none : first_fault (tapped b.at tap) n ≡ None =
      each_none (tapped b.at tap) n (λ k h. ap fault_of (each k h) ∙ none_each (nth b l.at) (area l.at) clean (lens_spot l i j k) (spot-inside l i j k)) in
      ap (λ z. unless z (o.finish (summed o (λ k. pixel_or o.black (tapped b.at tap k)) (λ k. (tap k).weight) n) scale offset b.maxval)) none
      ∙ ap (λ z. pixel (o.finish z scale offset b.maxval))
      (summed_same o (λ k. pixel_or o.black (tapped b.at tap k)) (lens_pixel o codes l i j) (λ k. (tap k).weight) w n
      (λ k h. ap (pixel_or o.black) (each k h) ∙ sym (reads_pixel o d (nth b l.at (lens_spot l i j k)) _ (sh (lens_spot l i j k) (spot-inside l i j k)))) m.weights)
      ∙ ap (λ z. pixel (o.finish (summed o (lens_pixel o codes l i j) w z) scale offset b.maxval)) m.all
      ∙ ap (λ z. pixel (o.finish (summed o (lens_pixel o codes l i j) w (l.columns * l.rows)) z offset b.maxval)) m.scaled
      ∙ ap (λ z. pixel (o.finish (summed o (lens_pixel o codes l i j) w (l.columns * l.rows)) s z b.maxval)) m.moved

  pub mixed_pixel : (d : (p : K) → o.decode (o.code p) ≡ Some p) (l : Lens) (w : ℕ → ℤ) (s : ℕ) (f : ℤ) (codes : List ℕ) (i j : ℕ) (φ : Formula) → Shown o (nth b l.at) (area l.at) codes → Mixed l w s f i j φ
      → taken o b.maxval b.at φ ≡ pixel (o.finish (summed o (lens_pixel o codes l i j) w (l.columns * l.rows)) s f b.maxval)
  mixed_pixel d l w s f codes i j black sh m = absurd m
  mixed_pixel d l w s f codes i j white sh m = absurd m
  mixed_pixel d l w s f codes i j (copied x y) sh m = absurd m
  mixed_pixel d l w s f codes i j (mixed n tap scale offset) sh m = mixes_pixel d l w s f codes i j n tap scale offset sh m

  -- the window of a single place tells the first hole of its region
  pub mixed_hole : (l : Lens) (w : ℕ → ℤ) (s : ℕ) (f : ℤ) (e : Fault) (φ : Formula) → Mixed l w s f 0 0 φ → 1 ≤ l.columns → l.at.width + l.before ≤ l.columns → l.at.height + l.above ≤ l.rows
      → first_fault (nth b l.at) (area l.at) ≡ Some e → taken o b.maxval b.at φ ≡ hole e
  mixed_hole l w s f e black m some wide high h = absurd m
  mixed_hole l w s f e white m some wide high h = absurd m
  mixed_hole l w s f e (copied x y) m some wide high h = absurd m
  mixed_hole l w s f e (mixed n tap scale offset) m some wide high h =
      let first : first_fault (tapped b.at tap) n ≡ Some e =
      first_same (tapped b.at tap) (λ k. nth b l.at (lens_spot l 0 0 k)) n (tap_nth l w s f 0 0 n tap scale offset m)
      ∙ ap (first_fault (λ k. nth b l.at (lens_spot l 0 0 k))) m.all ∙ first_covered (nth b l.at) (lens_spot l 0 0) (l.columns * l.rows) (area l.at) (covers l some wide high) ∙ h in
      ap (λ z. unless z (o.finish (summed o (λ k. pixel_or o.black (tapped b.at tap k)) (λ k. (tap k).weight) n) scale offset b.maxval)) first

  -- a walk shows the place that it stands at
  pub carried_place : (c : Carry) (i j : ℕ) (φ : Formula) → Carried c i j φ → (taken o b.maxval b.at φ ≡ nth b c.at (walked c i j)) × (walked c i j < area c.at)
  carried_place c i j black m = absurd m
  carried_place c i j white m = absurd m
  carried_place c i j (copied x y) m =
      (sym (ap (nth b c.at) m.there ∙ spot-nth b c.at x y m.within), omega (arith, m.there, spot_below c.at x y m.within))
  carried_place c i j (mixed n tap scale offset) m = absurd m
