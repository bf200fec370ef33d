-- How many prepares a survey makes.
use Rattle.std.proofs.Common.{◌≡◌, ℕ, zero, suc, ◌+◌, ◌*◌, ◌/◌, ◌^◌, ◌<◌, ◌≤◌, ap, ◌∙◌, pow-suc, arith}

-- at a place, behind so many prepares: the run can be halved e times more
pub record Spent (r made place : ℕ) : Type 0 where
  pub e : ℕ
  pub short : r < 2 ^ (e + 1)
  pub few : made + e ≤ 2 * place + 12

double : (e : ℕ) → 2 ^ (e + 1 + 1) ≡ 2 ^ (e + 1) * 2
double e = let q : e + 1 + 1 ≡ suc (e + 1) = omega arith in ap (λ x. 2 ^ x) q ∙ pow-suc 2 (e + 1)

half : (e r n made more place : ℕ) → r < 2 ^ (e + 1) → made + e ≤ 2 * place + 12 → n ≤ r → 2 ≤ n → more ≤ made + 1 → Spent (n / 2) more place
half zero r n made more place a b l h m = absurd (omega arith)
half (suc e) r n made more place a b l h m =
    let q : suc e + 1 ≡ e + 1 + 1 = omega arith in
    let p : 2 ^ (suc e + 1) ≡ 2 ^ (e + 1) * 2 = ap (λ x. 2 ^ x) q ∙ double e in
    record { e = e; short = omega (arith, p); few = omega arith }

pub spent_none : Spent 4096 0 0
spent_none = record { e = 12; short = omega arith; few = omega arith }

-- a success, after which the run is at most doubled
pub spent_pixels : (r next n made more place : ℕ) → Spent r made place → next ≤ r * 2 → more ≤ made + 1 → 1 ≤ n → Spent next more (place + n)
spent_pixels r next n made more place s a b h =
    record { e = s.e + 1; short = omega (arith, double s.e, s.short); few = omega (arith, s.few) }

-- a refusal of more than one place, after which the run is half of them
pub spent_half : (r n made more place : ℕ) → Spent r made place → n ≤ r → 2 ≤ n → more ≤ made + 1 → Spent (n / 2) more place
spent_half r n made more place s l h m = half s.e r n made more place s.short s.few l h m
