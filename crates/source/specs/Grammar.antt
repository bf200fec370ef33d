-- The header of a file, as a grammar of its bytes.
use Rattle.std.specs.Prelude.{◌≡◌, ℕ, ◌+◌, ◌-◌, ◌*◌, ◌<◌, ◌≤◌, List, [], ◌∷◌, ◌++◌, length, ◌≢◌}

-- a white byte: LF, space, TAB or CR
pub data White : ℕ → Type 0 where
  newline : White 10
  space : White 32
  tab : White 9
  return : White 13

-- the text of a comment: any bytes but LF
abbrev pub Text : List ℕ → Type 0
Text [] = Unit {0}
Text (b ∷ bs) = (b ≢ 10) × Text bs

-- white bytes and comments, in any order; a comment is '#', its text and LF
pub data Blank : List ℕ → Type 0 where
  none : Blank []
  white : {b : ℕ} {bs : List ℕ} → White b → Blank bs → Blank (b ∷ bs)
  comment : (text : List ℕ) {bs : List ℕ} → Text text → Blank bs → Blank (35 ∷ (text ++ (10 ∷ bs)))

-- a gap: a white byte, then any white bytes and comments
pub data Gap : List ℕ → Type 0 where
  gap : {b : ℕ} {bs : List ℕ} → White b → Blank bs → Gap (b ∷ bs)

-- digits
abbrev pub Digits : List ℕ → Type 0
Digits [] = Unit {0}
Digits (b ∷ bs) = ((48 ≤ b) × (b ≤ 57)) × Digits bs

-- the number that digits write behind a number v
abbrev pub worth : ℕ → List ℕ → ℕ
worth v [] = v
worth v (b ∷ bs) = worth (10 * v + (b - 48)) bs

-- one or more digits that write v; zeros may stand in front
pub record Number (v : ℕ) (ds : List ℕ) : Type 0 where
  pub some : 0 < length ds
  pub digits : Digits ds
  pub value : worth 0 ds ≡ v

-- 'P' and the kind's digit, then width, height and maxval, each behind a gap, then one white byte
pub data IsHeader (mark w h m : ℕ) : List ℕ → Type 0 where
  header : {a x b y c z : List ℕ} {e : ℕ} → Gap a → Number w x → Gap b → Number h y → Gap c → Number m z → White e
      → IsHeader mark w h m (80 ∷ mark ∷ (a ++ (x ++ (b ++ (y ++ (c ++ (z ++ (e ∷ []))))))))
