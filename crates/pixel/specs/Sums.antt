-- Weighted sums stay small, and their order does not matter.
use Rattle.std.specs.Prelude.{◌≡◌, ℕ, zero, suc, ◌+◌, ◌*◌, ◌/◌, ◌^◌, ◌<◌, ◌≤◌, min, ℤ, pos, negsuc, ◌+ℤ◌, ◌*ℤ◌, neg_ℤ, FitsSigned, unsigned_abs, refl}
use Rattle.std.proofs.Common.{sym, ◌∙◌, ap, mul-le-mul, div-le_self, arith, to_z, of_z, to_z-of_z}
use Rattle.std.proofs.lemmas.Int.{ints}
use Rattle.std.proofs.Math.IntN.{pos-*ℤ-pos, negsuc-*ℤ-pos, +ℤ_assoc, +ℤ_comm}
use Rattle.std.proofs.lemmas.Bool.Decides.{nat_tests}
use Rattle.std.specs.Int.{int_div_euclid, int_max, int_min, w32, w64}
use Rattle.pixel.specs.Scaling.{limited, finished, floor_div}

abs_neg : (m : ℕ) → unsigned_abs (neg_ℤ (pos m)) ≡ m
abs_neg zero = refl
abs_neg (suc m) = refl

abs_times : (w : ℤ) (v : ℕ) → unsigned_abs (w *ℤ pos v) ≡ unsigned_abs w * v
abs_times (pos a) v = ap unsigned_abs (pos-*ℤ-pos a v)
abs_times (negsuc a) v = ap unsigned_abs (negsuc-*ℤ-pos a v) ∙ abs_neg (suc a * v)

abs_sum : (s z : ℤ) → unsigned_abs (s +ℤ z) ≤ unsigned_abs s + unsigned_abs z
abs_sum s z = omega (arith, ints)

-- a weighted sample is at most 256 * 65535
pub product_small : (w : ℤ) (v : ℕ) → unsigned_abs w ≤ 256 → v ≤ 65535 → unsigned_abs (w *ℤ pos v) ≤ 256 * 65535
product_small w v h k = omega (arith, abs_times w v, mul-le-mul h k)

pub sum_grown : (s w : ℤ) (v n : ℕ) → unsigned_abs s ≤ n * (256 * 65535) → unsigned_abs w ≤ 256 → v ≤ 65535 → unsigned_abs (s +ℤ w *ℤ pos v) ≤ (n + 1) * (256 * 65535)
sum_grown s w v n h lt k = omega (arith, abs_sum s (w *ℤ pos v), product_small w v lt k)

pub sum_small : (n s : ℕ) → s ≤ n * (256 * 65535) → n ≤ 4096 → s ≤ 2 ^ 40
sum_small n s h k = omega arith

pub swapped : (s a b : ℤ) → (s +ℤ a) +ℤ b ≡ (s +ℤ b) +ℤ a
swapped s a b = +ℤ_assoc s a b ∙ ap (λ z. s +ℤ z) (+ℤ_comm a b) ∙ sym (+ℤ_assoc s b a)

pub limited-under : (z : ℤ) (m : ℕ) → limited z m ≤ m
limited-under (pos a) m = omega arith
limited-under (negsuc a) m = omega arith

pub finished-under : (sum : ℤ) (s : ℕ) (o : ℤ) (m : ℕ) → finished sum s o m ≤ m
finished-under sum s o m = limited-under _ m

kept : (s z : ℤ) → FitsSigned w64 s → unsigned_abs s ≤ 2 ^ 40 → unsigned_abs z ≤ 256 * 65535 → to_z w64 (of_z w64 (to_z w64 (of_z w64 s) +ℤ to_z w64 (of_z w64 z))) ≡ s +ℤ z
kept s z fs h k = omega (arith, ints)

-- what the machine adds is the sum of the numbers
pub added : (s w : ℤ) (v : ℕ) → FitsSigned w64 s → FitsSigned w32 w → unsigned_abs s ≤ 2 ^ 40 → unsigned_abs w ≤ 256 → v < 65536
    → to_z w64 (of_z w64 (to_z w64 (of_z w64 s) +ℤ to_z w64 (of_z w64 (to_z w64 (of_z w64 (to_z w32 (of_z w32 w))) *ℤ to_z w64 v)))) ≡ s +ℤ w *ℤ pos v
added s w v fs fw small light fv =
    let a : to_z w64 (of_z w64 (to_z w32 (of_z w32 w))) ≡ w = omega (arith, ints) in
    let b : to_z w64 v ≡ pos v = omega (arith, ints) in
    let p : to_z w64 (of_z w64 (to_z w32 (of_z w32 w))) *ℤ to_z w64 v ≡ w *ℤ pos v = ap (λ z. z *ℤ to_z w64 v) a ∙ ap (λ z. w *ℤ z) b in
    ap (λ z. to_z w64 (of_z w64 (to_z w64 (of_z w64 s) +ℤ to_z w64 (of_z w64 z)))) p
    ∙ kept s (w *ℤ pos v) fs small (product_small w v light (omega arith))

-- what the machine divides and limits is the sample that the sum comes to
divided : (a : ℤ) (s : ℕ) → int_div_euclid a (pos s) ≡ floor_div a s
divided (pos a) s = refl
divided (negsuc a) s = refl

quotient_small : (a : ℤ) (s : ℕ) → unsigned_abs (floor_div a s) ≤ unsigned_abs a + 1
quotient_small (pos a) s = omega (arith, div-le_self a s)
quotient_small (negsuc a) s = omega (arith, div-le_self a s)

clamped : (z : ℤ) (m : ℕ) → unsigned_abs (int_max (pos 0) (int_min z (pos m))) ≡ limited z m
clamped (pos a) m = grind (arith, nat_tests)
clamped (negsuc a) m = grind (arith, nat_tests)

pub scaled_is : (sum : ℤ) (s : ℕ) (o : ℤ) (m : ℕ) (q r : ℤ) → FitsSigned w64 sum → unsigned_abs sum ≤ 2 ^ 40 → s < 2 ^ 32 → FitsSigned w32 o → m < 65536
    → q ≡ int_div_euclid (to_z w64 (of_z w64 (to_z w64 (of_z w64 sum) +ℤ to_z w64 (s / 2)))) (to_z w64 s)
    → r ≡ int_max (pos 0) (int_min (to_z w64 (of_z w64 (to_z w64 (of_z w64 q) +ℤ to_z w64 (of_z w64 (to_z w32 (of_z w32 o)))))) (to_z w64 m))
    → unsigned_abs r ≡ finished sum s o m
scaled_is sum s o m q r fs small fk fo fm qe re =
    let a : to_z w64 (of_z w64 (to_z w64 (of_z w64 sum) +ℤ to_z w64 (s / 2))) ≡ sum +ℤ pos (s / 2) = omega (arith, ints) in
    let b : to_z w64 s ≡ pos s = omega (arith, ints) in
    let d : q ≡ floor_div (sum +ℤ pos (s / 2)) s = qe ∙ ap (λ z. int_div_euclid z (to_z w64 s)) a ∙ ap (int_div_euclid (sum +ℤ pos (s / 2))) b ∙ divided (sum +ℤ pos (s / 2)) s in
    let n : unsigned_abs (sum +ℤ pos (s / 2)) ≤ 2 ^ 41 = omega (arith, ints) in
    let k : unsigned_abs q ≤ 2 ^ 42 = omega (arith, ap unsigned_abs d, quotient_small (sum +ℤ pos (s / 2)) s) in
    let e : to_z w64 (of_z w64 (to_z w64 (of_z w64 q) +ℤ to_z w64 (of_z w64 (to_z w32 (of_z w32 o))))) ≡ q +ℤ o = omega (arith, ints) in
    let f : to_z w64 m ≡ pos m = omega (arith, ints) in
    ap unsigned_abs (re ∙ ap (λ z. int_max (pos 0) (int_min z (to_z w64 m))) e ∙ ap (λ z. int_max (pos 0) (int_min (q +ℤ o) z)) f)
    ∙ clamped (q +ℤ o) m ∙ ap (λ z. limited (z +ℤ o) m) d

-- a sample that is made is one that a pixel holds as it is
pub shown : (sum : ℤ) (s : ℕ) (o : ℤ) (m r : ℕ) → FitsSigned w64 sum → FitsSigned w32 o → m < 65536
    → r ≡ finished (to_z w64 (of_z w64 sum)) s (to_z w32 (of_z w32 o)) m → r ≡ min (finished sum s o m) 65535
shown sum s o m r fs fo fm e =
    let a : r ≡ finished sum s o m = e ∙ ap (λ z. finished z s (to_z w32 (of_z w32 o)) m) (to_z-of_z fs) ∙ ap (λ z. finished sum s z m) (to_z-of_z fo) in
    omega (arith, finished-under sum s o m)
