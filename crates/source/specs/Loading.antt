-- Which pixels' bytes a store could give.
use Rattle.std.specs.Prelude.{◌≡◌, ℕ, ◌+◌, ◌*◌, ◌<◌, ◌≤◌, List, Some, None, Ok, Err, Option, slice_index}
use Rattle.store.specs.Cells.{Cell}
use Rattle.store.specs.Reads.{answer, place_of, value}
use Rattle.store.specs.declared.lack.Lack.{Lack}
use Rattle.picture.specs.declared.fault.Cause.{Cause}
use Rattle.source.specs.Files.{lacking}

-- all n pixels were read, or the pixel behind those read lacks a byte
abbrev pub Lacks : (ℕ → Cell) → ℕ → ℕ → ℕ → ℕ → Option Cause → Type 0
Lacks at p step n r None = r ≡ n
Lacks at p step n r (Some c) = (r < n) × (lacking (answer at (p + r * step) step) ≡ Some c)

-- of n pixels of so many bytes from p on, the bytes of the first r were read
pub record Loaded (at : ℕ → Cell) (p step n : ℕ) (block : List ℕ) (r : ℕ) (lack : Option Cause) : Type 0 where
  pub within : r ≤ n
  pub there : answer at p (r * step) ≡ Ok tt
  pub bytes : (j : ℕ) → j < r * step → slice_index block j ≡ value (at (p + j))
  pub lacks : Lacks at p step n r lack

-- all n places were read, or the read names the one behind those that were
abbrev pub Misses : (ℕ → Cell) → ℕ → ℕ → ℕ → Option Lack → Type 0
Misses at p n r None = r ≡ n
Misses at p n r (Some x) = (answer at p n ≡ Err x) × (place_of x ≡ p + r)

-- of n places from p on, the first r were read
pub record Had (at : ℕ → Cell) (p n : ℕ) (buffer : List ℕ) (r : ℕ) (lack : Option Lack) : Type 0 where
  pub within : r ≤ n
  pub there : answer at p r ≡ Ok tt
  pub bytes : (j : ℕ) → j < r → slice_index buffer j ≡ value (at (p + j))
  pub misses : Misses at p n r lack
