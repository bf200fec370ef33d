use Rattle.std.specs.Prelude.{◌≡◌, ℕ, ◌≤◌, min, ℤ}
use Rattle.std.proofs.Common.{arith}
use Rattle.pixel.specs.declared.colour.ColourSum.{ColourSum}
use Rattle.pixel.specs.Scaling.{finished}
use Rattle.pixel.specs.Sums.{finished-under}

pub same : (r r' g g' b b' : ℤ) → r ≡ r' → g ≡ g' → b ≡ b' → ◌≡◌ {A = ColourSum} (record { red = r; green = g; blue = b }) (record { red = r'; green = g'; blue = b' })
same r r' g g' b b' p q s = cc

pub capped : (s : ℤ) (k : ℕ) (o : ℤ) (m : ℕ) → min (finished s k o m) 65535 ≤ m
capped s k o m = omega (arith, finished-under s k o m)
