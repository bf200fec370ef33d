-- The reader of a header: what each byte does, and what a run over the bytes answers.
use Rattle.std.specs.Prelude.{ℕ, ◌+◌, ◌-◌, ◌*◌, min, Bool, cond, ◌&&◌, ◌||◌, List, [], ◌∷◌, Ok, Err, Result, ◌==◌, nat_le}
use Rattle.source.specs.declared.header.Header.{Header}
use Rattle.source.specs.declared.header.HeaderError.{HeaderError}
use Rattle.source.specs.declared.header.HeaderError.TheVariants as error
use Rattle.source.specs.declared.reader.Class.{Class}
use Rattle.source.specs.declared.reader.Class.TheVariants.{Newline, White, Hash, Digit, Other}
use Rattle.source.specs.declared.reader.Field.{Field}
use Rattle.source.specs.declared.reader.Field.TheVariants.{Width, Height, Maxval}
use Rattle.source.specs.declared.reader.State.{State}
use Rattle.source.specs.declared.reader.State.TheVariants.{Marked, Gap, Comment, Number, Done}
use Rattle.source.specs.declared.reader.Reader.{Reader}
use Rattle.source.specs.Limits.{limit_of}

-- LF; space, TAB or CR; '#'; a digit and its value; any other byte
abbrev pub class_of : ℕ → Class
class_of b =
    cond (b == 10) Newline
    (cond (b == 32 || b == 9 || b == 13) White
    (cond (b == 35) Hash
    (cond (nat_le 48 b && nat_le b 57) (Digit (b - 48)) Other)))

-- another state, and the same numbers
abbrev pub to : State → Reader → Result Reader HeaderError
to s r = Ok (record { state = s; width = r.width; height = r.height; maxval = r.maxval })

-- a number that is whole is kept, and the gap before the next one begins, or the header ends
abbrev pub kept : Field → ℕ → Reader → Reader
kept Width v r = record { state = Gap Height; width = v; height = r.height; maxval = r.maxval }
kept Height v r = record { state = Gap Maxval; width = r.width; height = v; maxval = r.maxval }
kept Maxval v r = record { state = Done; width = r.width; height = r.height; maxval = v }

-- a field may be any number from 1 to its limit
abbrev pub allowed : Field → ℕ → Bool
allowed f v = nat_le 1 v && nat_le v (limit_of f)

-- a number is judged at the white byte behind it, which is at place p
abbrev pub judged : ℕ → Field → ℕ → Reader → Result Reader HeaderError
judged p f v r = cond (allowed f v) (Ok (kept f v r)) (Err (error.Number p))

-- the number behind one more digit; above its limit it is only one too large
abbrev pub longer : Field → ℕ → ℕ → ℕ
longer f v d = min (10 * v + d) (limit_of f + 1)

-- what a byte at place p does, by the reader's state and the byte's class
abbrev pub next : ℕ → State → Class → Reader → Result Reader HeaderError
-- behind the mark a white byte begins a gap
next p Marked Newline r = to (Gap Width) r
next p Marked White r = to (Gap Width) r
next p Marked Hash r = Err (error.Byte p)
next p Marked (Digit d) r = Err (error.Byte p)
next p Marked Other r = Err (error.Byte p)
-- a gap goes on with white bytes and comments, and ends at a digit
next p (Gap f) Newline r = to (Gap f) r
next p (Gap f) White r = to (Gap f) r
next p (Gap f) Hash r = to (Comment f) r
next p (Gap f) (Digit d) r = to (Number f d) r
next p (Gap f) Other r = Err (error.Byte p)
-- a comment ends at LF
next p (Comment f) Newline r = to (Gap f) r
next p (Comment f) White r = to (Comment f) r
next p (Comment f) Hash r = to (Comment f) r
next p (Comment f) (Digit d) r = to (Comment f) r
next p (Comment f) Other r = to (Comment f) r
-- a number goes on with digits, and ends at a white byte
next p (Number f v) Newline r = judged p f v r
next p (Number f v) White r = judged p f v r
next p (Number f v) Hash r = Err (error.Byte p)
next p (Number f v) (Digit d) r = to (Number f (longer f v d)) r
next p (Number f v) Other r = Err (error.Byte p)
-- a reader that is done takes no byte
next p Done c r = Err (error.Byte p)

-- what a reader answers to a byte
abbrev pub answered : Result Reader HeaderError → Result Unit HeaderError
answered (Ok _) = Ok tt
answered (Err e) = Err e

-- and what it is then: one that refuses stays as it is
abbrev pub moved : Result Reader HeaderError → Reader → Reader
moved (Ok s) r = s
moved (Err _) r = r

-- the header, of n bytes, where the reader is done; else what the rest gives
abbrev pub ended : State → Reader → ℕ → Result Header HeaderError → Result Header HeaderError
ended Marked r n rest = rest
ended (Gap _) r n rest = rest
ended (Comment _) r n rest = rest
ended (Number _ _) r n rest = rest
ended Done r n rest = Ok (record { width = r.width; height = r.height; maxval = r.maxval; length = n })

-- the rest is read where the byte was taken
abbrev pub onward : Result Reader HeaderError → (Reader → Result Header HeaderError) → Result Header HeaderError
onward (Ok s) go = go s
onward (Err e) go = Err e

-- a run over the bytes from place p on
unfoldable pub run : Reader → ℕ → List ℕ → Result Header HeaderError
run r p [] = Err (error.End p)
run r p (b ∷ bs) = onward (next p r.state (class_of b) r) (λ s. ended s.state s (p + 1) (run s (p + 1) bs))

-- a reader behind the mark
abbrev pub start : Reader
start = record { state = Marked; width = 0; height = 0; maxval = 0 }

-- the mark is 'P' and the kind's digit; then the reader starts
abbrev pub header_of : ℕ → List ℕ → Result Header HeaderError
header_of mark [] = Err (error.End 0)
header_of mark (a ∷ []) = Err (error.End 1)
header_of mark (a ∷ b ∷ rest) = cond (a == 80 && b == mark) (run start 2 rest) (Err error.Mark)
