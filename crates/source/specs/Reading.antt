-- What the reader of a header accepts and refuses, in the words of the grammar.
use Rattle.std.specs.Prelude.{◌≡◌, ℕ, ◌+◌, ◌<◌, ◌≤◌, List, [], ◌∷◌, ◌++◌, length, take, Ok, Err, Result, ◌≢◌}
use Rattle.source.specs.declared.header.Header.{Header}
use Rattle.source.specs.declared.header.HeaderError.{HeaderError}
use Rattle.source.specs.declared.header.HeaderError.TheVariants.{Mark, End, Byte, Number}
use Rattle.source.specs.declared.reader.Field.TheVariants.{Width, Height, Maxval}
use Rattle.source.specs.Grammar as grammar
use Rattle.source.specs.Grammar.{Gap, IsHeader, White}
use Rattle.source.specs.Limits.{Allowed}

-- the number of a refusal
abbrev pub number_of : HeaderError → ℕ
number_of Mark = 1
number_of (End _) = 2
number_of (Byte _) = 3
number_of (Number _) = 4

-- the first bytes are a header with these numbers, each of which is allowed
pub record Starts (mark : ℕ) (bytes : List ℕ) (h : Header) : Type 0 where
  pub within : h.length ≤ length bytes
  pub is : IsHeader mark h.width h.height h.maxval (take h.length bytes)
  pub allowed : Allowed Width h.width × Allowed Height h.height × Allowed Maxval h.maxval

-- a header is accepted exactly when the bytes start with it
abbrev pub Exact : ℕ → List ℕ → Result Header HeaderError → Type 0
Exact mark bytes r = (h : Header) → (r ≡ Ok h → Starts mark bytes h) × (Starts mark bytes h → r ≡ Ok h)

-- the bytes, with some or none behind them, are a header, whatever its numbers
pub record Begins (mark : ℕ) (bytes : List ℕ) : Type 0 where
  pub rest : List ℕ
  pub width : ℕ
  pub height : ℕ
  pub maxval : ℕ
  pub is : IsHeader mark width height maxval (bytes ++ rest)

-- the same, and its numbers are allowed
pub record BeginsAllowed (mark : ℕ) (bytes : List ℕ) : Type 0 where
  pub begins : Begins mark bytes
  pub allowed : Allowed Width begins.width × Allowed Height begins.height × Allowed Maxval begins.maxval

-- the bytes end with the white byte behind a number that is not allowed, and those before it are
pub data Spoiled (mark : ℕ) : List ℕ → Type 0 where
  at_width : {w : ℕ} {a x : List ℕ} {e : ℕ} → Gap a → grammar.Number w x → (Allowed Width w → ⊥) → White e
      → Spoiled mark (80 ∷ mark ∷ (a ++ (x ++ (e ∷ []))))
  at_height : {w h : ℕ} {a x b y : List ℕ} {e : ℕ} → Gap a → grammar.Number w x → Allowed Width w → Gap b → grammar.Number h y → (Allowed Height h → ⊥) → White e
      → Spoiled mark (80 ∷ mark ∷ (a ++ (x ++ (b ++ (y ++ (e ∷ []))))))
  at_maxval : {w h m : ℕ} {a x b y c z : List ℕ} {e : ℕ} → Gap a → grammar.Number w x → Allowed Width w → Gap b → grammar.Number h y → Allowed Height h
      → Gap c → grammar.Number m z → (Allowed Maxval m → ⊥) → White e
      → Spoiled mark (80 ∷ mark ∷ (a ++ (x ++ (b ++ (y ++ (c ++ (z ++ (e ∷ []))))))))

-- the bytes are the front of a header that goes on behind them, and no number in them is refused
pub record Unended (mark : ℕ) (bytes : List ℕ) : Type 0 where
  pub begins : Begins mark bytes
  pub more : 0 < length begins.rest
  pub clean : (n : ℕ) → Spoiled mark (take n bytes) → ⊥

-- why a header is refused
abbrev pub Why : ℕ → List ℕ → HeaderError → Type 0
-- there are two bytes, and they are not the mark
Why mark bytes Mark = (2 ≤ length bytes) × (take 2 bytes ≢ 80 ∷ mark ∷ [])
-- the bytes end at this place, in the mark or in what may still become a header
Why mark bytes (End p) = (p ≡ length bytes) × (2 ≤ p → Unended mark bytes)
-- before this byte the bytes may still become a header, and with it none, whatever its numbers
Why mark bytes (Byte p) = (2 ≤ p) × (p < length bytes) × Unended mark (take p bytes) × (Begins mark (take (p + 1) bytes) → ⊥)
-- this is the white byte behind the first number that is not allowed; the bytes begin a header, but for that
Why mark bytes (Number p) = (p < length bytes) × Begins mark (take (p + 1) bytes) × Spoiled mark (take (p + 1) bytes)

-- a header is refused exactly for its reason; and unless the bytes only ended, no further ones make an allowed header of them
pub record Refuses (mark : ℕ) (bytes : List ℕ) (r : Result Header HeaderError) : Type 0 where
  pub exactly : (e : HeaderError) → (r ≡ Err e → Why mark bytes e) × (Why mark bytes e → r ≡ Err e)
  pub final : (e : HeaderError) → r ≡ Err e → (number_of e ≢ 2) → BeginsAllowed mark bytes → ⊥
