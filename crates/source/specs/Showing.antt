-- What a file source shows.
use Rattle.std.specs.Prelude.{◌≡◌, ℕ}
use Rattle.std.proofs.Common.{ap, ◌∙◌}
use Rattle.pixel.specs.Ops.{Ops}
use Rattle.store.specs.Cells.{Cell, capped}
use Rattle.picture.specs.Images.{Image}
use Rattle.source.specs.declared.file.FileSource.{FileSource}
use Rattle.source.specs.Files.{raster_image}

-- its raster, of what its store has
abbrev pub shown_of : {S K Q : Type 0} → Ops K Q → (S → ℕ → Cell) → FileSource S K → Image K
shown_of o at f = raster_image o (capped (at f.store)) f.raster

-- two that differ at most in the bytes that were read last
abbrev pub SameFile : {S K : Type 0} → FileSource S K → FileSource S K → Type 0
SameFile f g = (f.store ≡ g.store) × (f.raster ≡ g.raster) × (f.count ≡ g.count)

pub same_shown : {S K Q : Type 0} (o : Ops K Q) (at : S → ℕ → Cell) (f g : FileSource S K) → SameFile f g → shown_of o at f ≡ shown_of o at g
same_shown o at f g s = ap (λ x. raster_image o (capped (at x)) f.raster) s.0 ∙ ap (raster_image o (capped (at g.store))) s.1
