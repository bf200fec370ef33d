-- Places of one side over the side below.
use Rattle.std.proofs.Common.{◌≡◌, ℕ, suc, ◌+◌, ◌-◌, ◌<◌, ◌≤◌, true, false, ℤ, pos, negsuc, ◌+ℤ◌, ◌-ℤ◌, ◌≤ℤ◌, ◌<ℤ◌, refl, ap, ◌∙◌, arith, rules}
use borrow.Author.Differences.{ints}
use Rattle.layer.specs.declared.spread.Spread.{Spread}
use Rattle.layer.specs.Spreads.{Falls, Parted}
use Rattle.picture.specs.Steps.{among, nearest}

pub among_yes : (z : ℤ) (a n : ℕ) → z ≡ pos a → a < n → among z n ≡ true
among_yes z a n e h = ap (λ x. among x n) e ∙ search rules

pub near_yes : (z : ℤ) (a n : ℕ) → z ≡ pos a → a < n → nearest z n ≡ a
near_yes z a n e h = ap (λ x. nearest x n) e ∙ omega arith

pub among-before : (z : ℤ) (n : ℕ) → z <ℤ pos 0 → among z n ≡ false
among-before (pos a) n h = absurd (omega (arith, ints, h))
among-before (negsuc a) n h = refl

pub near_before : (z : ℤ) (n : ℕ) → z <ℤ pos 0 → nearest z n ≡ 0
near_before (pos a) n h = absurd (omega (arith, ints, h))
near_before (negsuc a) n h = refl

pub among-behind : (z : ℤ) (a n : ℕ) → z ≡ pos a → n ≤ a → among z n ≡ false
among-behind z a n e h = ap (λ x. among x n) e ∙ search rules

pub near-behind : (z : ℤ) (a n : ℕ) → z ≡ pos a → n ≤ a → nearest z n ≡ n - 1
near-behind z a n e h = ap (λ x. nearest x n) e ∙ omega arith

abbrev spreading : ℕ → ℕ → ℕ → Spread
spreading f n k = record { first = f; count = n; step = k }

-- all are places of the side below
pub falls_inside : (u : ℕ) (x : ℤ) (n m a : ℕ) → pos u -ℤ x ≡ pos a → a + n ≤ m → 1 ≤ n → Falls (spreading a n 1) u x n m
falls_inside u x n m a e h some = record {
  side = λ i l. among_yes (pos (u + i) -ℤ x) (a + i) m (omega (arith, ints)) (omega arith);
  near = λ i l. near_yes (pos (u + i) -ℤ x) (a + i) m (omega (arith, ints)) (omega arith) ∙ omega arith;
  room = λ i l. omega arith;
  some = some;
  within = h;
  single = omega arith;
  lone = λ z. z;
}

-- all lie before it
pub falls_before : (u : ℕ) (x : ℤ) (n m : ℕ) → (pos (u + n) -ℤ x) ≤ℤ pos 0 → 1 ≤ m → Falls (spreading 0 1 0) u x n m
falls_before u x n m h some = record {
  side = λ i l. among-before (pos (u + i) -ℤ x) m (omega (arith, ints));
  near = λ i l. near_before (pos (u + i) -ℤ x) m (omega (arith, ints)) ∙ omega arith;
  room = λ i l. omega arith;
  some = omega arith;
  within = omega arith;
  single = omega arith;
  lone = λ z. refl;
}

-- all lie behind it
pub falls_behind : (u : ℕ) (x : ℤ) (n m a : ℕ) → pos u -ℤ x ≡ pos a → m ≤ a → 1 ≤ m → Falls (spreading (m - 1) 1 0) u x n m
falls_behind u x n m a e h some = record {
  side = λ i l. among-behind (pos (u + i) -ℤ x) (a + i) m (omega (arith, ints)) (omega arith);
  near = λ i l. near-behind (pos (u + i) -ℤ x) (a + i) m (omega (arith, ints)) (omega arith) ∙ omega arith;
  room = λ i l. omega arith;
  some = omega arith;
  within = omega arith;
  single = omega arith;
  lone = λ z. refl;
}

-- the edge lies among them
parted : (u : ℕ) (x z : ℤ) (n m : ℕ) → z ≡ pos u -ℤ x → z <ℤ pos m → pos 0 <ℤ (z +ℤ pos n) → (pos 0 ≤ℤ z → pos m <ℤ (z +ℤ pos n)) → 1 ≤ m → Parted u x n m
parted u x (pos a) n m e b h k some = record {
  more = let w = k (omega (arith, ints)) in omega (arith, ints, w, b);
  place = 0;
  one = omega (arith, ints);
  there = among_yes (pos (u + 0) -ℤ x) a m (omega (arith, ints)) (omega (arith, ints));
}
parted u x (negsuc a) n m e b h k some = record {
  more = omega (arith, ints);
  place = suc a;
  one = omega (arith, ints);
  there = among_yes (pos (u + suc a) -ℤ x) 0 m (omega (arith, ints)) (omega arith);
}

pub parted_at : (u : ℕ) (x : ℤ) (n m : ℕ) → (pos u -ℤ x) <ℤ pos m → pos 0 <ℤ (pos (u + n) -ℤ x) → (pos 0 ≤ℤ (pos u -ℤ x) → pos m <ℤ (pos (u + n) -ℤ x)) → 1 ≤ m → Parted u x n m
parted_at u x n m b h k some = parted u x (pos u -ℤ x) n m refl b (omega (arith, ints)) (λ z. let w = k z in omega (arith, ints)) some
