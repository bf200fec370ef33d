-- How much of a raster a store can have.
use Rattle.std.specs.Prelude.{◌≡◌, ℕ, ◌+◌, ◌-◌, ◌*◌, ◌/◌, ◌≤◌, cond, nat_le}
use Rattle.pixel.specs.Ops.{Ops}
use Rattle.store.specs.Cells.{Cell, missing}
use Rattle.picture.specs.declared.fault.Cause.TheVariants.{Missing}
use Rattle.picture.specs.Places.{hole}
use Rattle.source.specs.declared.raster.Raster.{Raster}
use Rattle.source.specs.Files.{fault_at, raster_image}

-- no byte stands from end on
abbrev pub Silent : (ℕ → Cell) → ℕ → Type 0
Silent at end = (p : ℕ) → end ≤ p → at p ≡ missing

-- how many pixels of so many bytes from start on have their first byte before end
abbrev pub reached : ℕ → ℕ → ℕ → ℕ
reached start end step = cond (nat_le end start) 0 ((end - start - 1) / step + 1)

-- each place behind the first n in reading order is a hole by a missing byte
abbrev pub LostBehind : {K S : Type 0} → Ops K S → (ℕ → Cell) → Raster → ℕ → Type 0
LostBehind o at r n = (x y : ℕ) → n ≤ y * r.size.width + x → (raster_image o at r).at x y ≡ hole (fault_at r.source x y Missing)
