-- What a kind of pixel can do: codes, samples, and weighted sums.
use Rattle.std.specs.Prelude.{ℕ, ◌+◌, ◌*◌, ◌≤◌, List, [], ◌∷◌, ℤ, Option, slice_index}

pub record Ops (K S : Type 0) : Type 0 where
  -- the second byte of a file of this kind
  pub mark : ℕ
  -- how many samples a pixel has
  pub depth : ℕ
  pub samples : K → List ℕ
  -- the pixel with these samples
  pub pixel : List ℕ → K
  pub code : K → ℕ
  -- the pixel of a code, or nothing
  pub decode : ℕ → Option K
  pub black : K
  -- white, by maxval
  pub white : ℕ → K
  pub empty : S
  -- a sum with one more pixel times a weight
  pub more : S → K → ℤ → S
  -- sum, scale, offset, maxval
  pub finish : S → ℕ → ℤ → ℕ → K

-- no sample is above m
abbrev pub Under : ℕ → List ℕ → Type 0
Under m xs = (i : ℕ) → slice_index xs i ≤ m

-- samples as the digits of one number, 16 bits each, behind what stands before them
abbrev pub behind : ℕ → List ℕ → ℕ
behind c [] = c
behind c (x ∷ xs) = behind (c * 65536 + x) xs

abbrev pub joined : List ℕ → ℕ
joined xs = behind 0 xs
