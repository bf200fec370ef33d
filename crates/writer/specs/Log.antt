-- Laws of whole logs: calls of a picture in any order, refused ones too.
use Rattle.std.specs.Prelude.{◌≡◌, ℕ, ◌+◌, ◌-◌, ◌*◌, ◌<◌, ◌≤◌, ◌⊎◌, List, [], ◌++◌, length, take, drop, Result, slice_index}
use Rattle.pixel.specs.Ops.{Ops}
use Rattle.picture.specs.declared.fault.Fault.{Fault}
use Rattle.picture.specs.declared.fault.Refusal.{Refusal}
use Rattle.picture.specs.declared.rect.Rect.{Rect}
use Rattle.picture.specs.Refusals.{done, refused, fault_values, outcome}
use Rattle.picture.specs.Places.{pixel, hole}
use Rattle.picture.specs.Images.{Image, Model}
use Rattle.picture.specs.Compose.{composed}
use Rattle.picture.specs.Region.{Within}
use Rattle.picture.specs.Prepare.{Prepared, Forgot, area}
use Rattle.writer.specs.declared.row_writer.RowWriter.{RowWriter}
use Rattle.writer.specs.File.{file}
use Rattle.writer.specs.Calls.{amount, Strip}
use Rattle.writer.specs.Tiles.{Tiled}
use Rattle.writer.specs.Whole.{Filed}

module _ {P K S : Type 0} (o : Ops K S) (model : P → Model K) (count : P → ℕ) (bare : P → Type 0) where
  -- a call of p, which is q behind it; size, count and begin alter nothing and are left out
  pub data Call (p q : P) : Type 0 where
    prepared : {r : Rect} {work work' : List ℕ} {a : Result Unit Refusal} → Prepared o model count p r work a q work' → Call p q
    forgot : Forgot model count bare p q → Call p q
    stripped : {s : ℕ} {w w' : RowWriter} {work work' out out' : List ℕ} {a : Result ℕ Refusal} → Strip o model count p s w work out a q w' work' out' → Call p q
    tiled : {c r side : ℕ} {work work' out out' : List ℕ} {a : Result ℕ Refusal} → Tiled o model count p c r side work out a q work' out' → Call p q
    filed : {s : ℕ} {work work' out out' : List ℕ} {a : Result ℕ Refusal} → Filed o model count p s work out a q work' out' → Call p q

  -- calls one after another
  pub data Log (p : P) : P → Type 0 where
    start : Log p p
    next : {q r : P} → Log p q → Call q r → Log p r

  -- a log with the strips of one writer, which was w and is v behind it, and the bytes that they answered, in the order of the calls
  pub data Strips (p : P) (w : RowWriter) : P → RowWriter → List ℕ → Type 0 where
    start : Strips p w p w []
    other : {q r : P} {v : RowWriter} {bytes : List ℕ} → Strips p w q v bytes → Call q r → Strips p w r v bytes
    strip : {q r : P} {v v' : RowWriter} {bytes : List ℕ} {s : ℕ} {work work' out out' : List ℕ} {a : Result ℕ Refusal}
        → Strips p w q v bytes → Strip o model count q s v work out a r v' work' out' → Strips p w r v' (bytes ++ take (amount a) out')

  -- the picture composed from p's source by p's steps
  abbrev pub whole : P → Image K
  whole p = composed o (model p).steps (model p).source

  -- once all rows are answered, the header and the strips joined are the composed picture's file
  abbrev pub Joined : P → List ℕ → RowWriter → Type 0
  Joined p head w = (q : P) (v : RowWriter) (bytes : List ℕ) → Strips p w q v bytes → v.next ≡ v.size.height → head ++ bytes ≡ file o (whole p)

-- no place of the rectangle is a hole
abbrev pub NoHole : {K : Type 0} → Image K → Rect → Type 0
NoHole {K} i r = (u v : ℕ) → Within r u v → (p : K) × (i.at u v ≡ pixel p)

-- (u, v) comes before (x, y) in reading order
abbrev pub Before : ℕ → ℕ → ℕ → ℕ → Type 0
Before u v x y = (v < y) ⊎ ((v ≡ y) × (u < x))

-- the first hole of the rectangle, in reading order, tells f
pub record First {K : Type 0} (i : Image K) (r : Rect) (f : Fault) : Type 0 where
  pub column : ℕ
  pub row : ℕ
  pub within : Within r column row
  pub here : i.at column row ≡ hole f
  pub first : (u v : ℕ) → Within r u v → Before u v column row → (p : K) × (i.at u v ≡ pixel p)

module _ {K S : Type 0} (o : Ops K S) where
  -- the entries are the codes of the rectangle's pixels in reading order
  abbrev pub Pixels : Image K → Rect → List ℕ → Type 0
  Pixels i r codes = (u v : ℕ) → Within r u v → (p : K) × (i.at u v ≡ pixel p) × (slice_index codes ((v - r.top) * r.width + (u - r.left)) ≡ o.code p)

  -- a prepare of a rectangle of i with a buffer that is long enough
  pub record Answered (i : Image K) (r : Rect) (before : List ℕ) (a : Result Unit Refusal) (after : List ℕ) : Type 0 where
    pub fills : NoHole i r → (outcome a ≡ done) × Pixels i r after
    pub clean : outcome a ≡ done → NoHole i r
    pub tells : (u v : ℕ) (f : Fault) → Within r u v → i.at u v ≡ hole f → (e : Fault) × First i r e × (outcome a ≡ refused 12 (fault_values e)) × ((k : ℕ) → k < area r → slice_index after k ≡ 0)
    pub stays : drop (area r) after ≡ drop (area r) before

module _ {P K S : Type 0} (o : Ops K S) (model : P → Model K) (count : P → ℕ) (bare : P → Type 0) where
  -- behind any log from a picture, a prepare inside it with a long enough buffer answers the composed picture's pixels or its first hole
  abbrev pub Answers : Type 0
  Answers = (p q : P) → Log o model count bare p q
      → (r : Rect) (before after : List ℕ) (a : Result Unit Refusal) (q' : P) → Prepared o model count q r before a q' after
      → r.left + r.width ≤ (whole o model count bare p).width → r.top + r.height ≤ (whole o model count bare p).height → area r ≤ length before
      → Answered o (whole o model count bare p) r before a after
