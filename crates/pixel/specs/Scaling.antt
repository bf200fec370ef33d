-- From a sum to a sample.
use Rattle.std.specs.Prelude.{ℕ, ◌/◌, min, ℤ, pos, negsuc, ◌+ℤ◌}

-- the quotient, rounded towards minus infinity
abbrev pub floor_div : ℤ → ℕ → ℤ
floor_div (pos a) s = pos (a / s)
floor_div (negsuc a) s = negsuc (a / s)

-- limited to 0 and m
abbrev pub limited : ℤ → ℕ → ℕ
limited (pos a) m = min a m
limited (negsuc a) m = 0

-- the sum divided by the scale, rounded, moved by the offset, and limited
abbrev pub finished : ℤ → ℕ → ℤ → ℕ → ℕ
finished sum s o m = limited (floor_div (sum +ℤ pos (s / 2)) s +ℤ o) m
