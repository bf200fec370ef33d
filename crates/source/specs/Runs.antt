-- Pixels that were taken one after another from their bytes.
use Rattle.std.specs.Prelude.{◌≡◌, ℕ, ◌*◌, ◌<◌, ◌≤◌, Bool, List, Some, None, slice_index}
use Rattle.pixel.specs.Ops.{Ops}
use Rattle.source.specs.Raster.{sample_bytes, code_of, from}

-- of n pixels the first r were taken, and the next is none
pub record Decoded {K S : Type 0} (o : Ops K S) (w : Bool) (m : ℕ) (bytes : List ℕ) (n r : ℕ) (out : List ℕ) : Type 0 where
  pub within : r ≤ n
  pub taken : (k : ℕ) → k < r → code_of o w m (from bytes (k * (o.depth * sample_bytes w))) ≡ Some (slice_index out k)
  pub next : r < n → code_of o w m (from bytes (r * (o.depth * sample_bytes w))) ≡ None
