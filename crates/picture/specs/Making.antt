-- Which numbers make a rectangle or a size.
use Rattle.std.specs.Prelude.{◌≡◌, ℕ, ◌+◌, Bool, false, ◌&&◌, [], Ok, Err, Result, nat_le}
use Rattle.picture.specs.declared.fault.Refusal.{Refusal}
use Rattle.picture.specs.declared.rect.Rect.{Rect}
use Rattle.picture.specs.declared.size.Size.{Size}
use Rattle.picture.specs.Limits.{largest}
use Rattle.picture.specs.Refusals.{refused, told}

abbrev pub rectangular : ℕ → ℕ → ℕ → ℕ → Bool
rectangular l t w h = nat_le 1 w && (nat_le 1 h && (nat_le (l + w) largest && nat_le (t + h) largest))

-- the rectangle of these numbers, or 10 where they make none
abbrev pub RectMade : ℕ → ℕ → ℕ → ℕ → Result Rect Refusal → Type 0
RectMade l t w h (Ok r) = (r.left ≡ l) × (r.top ≡ t) × (r.width ≡ w) × (r.height ≡ h)
RectMade l t w h (Err e) = (rectangular l t w h ≡ false) × (told e ≡ refused 10 [])

abbrev pub sizeable : ℕ → ℕ → ℕ → Bool
sizeable w h m = (nat_le 1 w && nat_le w largest) && ((nat_le 1 h && nat_le h largest) && (nat_le 1 m && nat_le m 65535))

-- the size of these numbers, or 5 where one is outside its limits
abbrev pub SizeMade : ℕ → ℕ → ℕ → Result Size Refusal → Type 0
SizeMade w h m (Ok s) = (s.width ≡ w) × (s.height ≡ h) × (s.maxval ≡ m)
SizeMade w h m (Err e) = (sizeable w h m ≡ false) × (told e ≡ refused 5 [])
