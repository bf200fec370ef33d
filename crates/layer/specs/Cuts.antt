-- Where a part may be cut.
use Rattle.std.specs.Prelude.{◌≡◌, ℕ, ◌+◌, ◌-◌, ◌<◌, ◌≤◌, Some, None, Option}
use Rattle.picture.specs.declared.rect.Rect.{Rect}
use Rattle.layer.specs.Laid.{Part}
use Rattle.layer.specs.declared.cut.Cut.{Cut}
use Rattle.layer.specs.declared.cut.Cut.TheVariants.{Across, Down}

-- both sides of a cut have places
abbrev pub Within : Option ℕ → ℕ → Type 0
Within None n = Unit {0}
Within (Some k) n = (1 ≤ k) × (k < n)

abbrev pub Cuts : Option Cut → Rect → Type 0
Cuts None p = Unit {0}
Cuts (Some (Across n)) p = (1 ≤ n) × (n < p.width)
Cuts (Some (Down n)) p = (1 ≤ n) × (n < p.height)

-- n columns, and the others
pub record Beside (p q s : Rect) (n : ℕ) : Type 0 where
  pub less : n < p.width
  pub left₁ : q.left ≡ p.left
  pub top₁ : q.top ≡ p.top
  pub width₁ : q.width ≡ n
  pub height₁ : q.height ≡ p.height
  pub left₂ : s.left ≡ p.left + n
  pub top₂ : s.top ≡ p.top
  pub width₂ : s.width ≡ p.width - n
  pub height₂ : s.height ≡ p.height

-- n rows, and the others
pub record Above (p q s : Rect) (n : ℕ) : Type 0 where
  pub less : n < p.height
  pub left₁ : q.left ≡ p.left
  pub top₁ : q.top ≡ p.top
  pub width₁ : q.width ≡ p.width
  pub height₁ : q.height ≡ n
  pub left₂ : s.left ≡ p.left
  pub top₂ : s.top ≡ p.top + n
  pub width₂ : s.width ≡ p.width
  pub height₂ : s.height ≡ p.height - n

-- both sides of a cut
abbrev pub Halves : Cut → Rect → Rect → Rect → Type 0
Halves (Across n) p q s = Beside p q s n
Halves (Down n) p q s = Above p q s n

-- both lie in p, and have smaller sides together
pub record Smaller (p q s : Rect) : Type 0 where
  pub near : Part p q
  pub far : Part p s
  pub less_near : q.width + q.height < p.width + p.height
  pub less_far : s.width + s.height < p.width + p.height
