-- What the calls answer that prepare one part of a picture and write bytes; the calls of a row writer.
use Rattle.std.specs.Prelude.{◌≡◌, ℕ, ◌+◌, ◌-◌, ◌*◌, ◌<◌, min, Bool, cond, ◌&&◌, List, [], ◌++◌, length, drop, Some, None, Ok, Err, Option, Result, ◌==◌, nat_le}
use Rattle.pixel.specs.Ops.{Ops}
use Rattle.picture.specs.declared.fault.Fault.{Fault}
use Rattle.picture.specs.declared.fault.Refusal.{Refusal}
use Rattle.picture.specs.declared.fault.Refused.{Refused}
use Rattle.picture.specs.Refusals.{Outcome, done, refused, fault_values, told}
use Rattle.picture.specs.Places.{Place, first_fault}
use Rattle.picture.specs.Images.{Image, Model}
use Rattle.picture.specs.Prepare.{up, put, code_at}
use Rattle.writer.specs.declared.row_writer.RowWriter.{RowWriter}
use Rattle.writer.specs.File.{place_of, pixel_width, reading, header_of}

-- how a call ends
pub data End : Type 0 where
  -- refused with this number, and nothing prepared
  early : ℕ → End
  -- the part has a hole
  holed : Fault → End
  wrote : End

-- by the number of an early refusal and the fault of the part's first hole, if there are such
abbrev pub ending : Option ℕ → Option Fault → End
ending (Some n) x = early n
ending None (Some f) = holed f
ending None None = wrote

abbrev pub outcome_of : Result ℕ Refusal → Outcome
outcome_of (Ok n) = done
outcome_of (Err e) = told e

-- how many bytes were written
abbrev pub amount : Result ℕ Refusal → ℕ
amount (Ok n) = n
amount (Err e) = 0

abbrev pub end_outcome : End → Outcome
end_outcome (early n) = refused n []
end_outcome (holed f) = refused 12 (fault_values f)
end_outcome wrote = done

-- n if it wrote
abbrev pub end_amount : End → ℕ → ℕ
end_amount (early m) n = 0
end_amount (holed f) n = 0
end_amount wrote n = n

-- what prepares, prepares once
abbrev pub end_count : End → ℕ → ℕ
end_count (early m) n = n
end_count (holed f) n = up n
end_count wrote n = up n

-- the buffer of codes: of n places, f gives the codes
abbrev pub end_codes : End → (ℕ → ℕ) → ℕ → List ℕ → List ℕ
end_codes (early m) f n buffer = buffer
end_codes (holed e) f n buffer = put (Some e) f n buffer
end_codes wrote f n buffer = put None f n buffer

-- these bytes at the start of a buffer, whose later bytes stay
abbrev pub over : List ℕ → List ℕ → List ℕ
over bytes buffer = bytes ++ drop (length bytes) buffer

abbrev pub end_bytes : End → List ℕ → List ℕ → List ℕ
end_bytes (early m) bytes buffer = buffer
end_bytes (holed f) bytes buffer = buffer
end_bytes wrote bytes buffer = over bytes buffer

module _ {P K S : Type 0} (o : Ops K S) (model : P → Model K) (count : P → ℕ) where
  -- a call that ends so, where the part has n places and these bytes are to be written: p, the codes, the bytes and the answer, then the same behind it
  pub record Wrote (e : End) (place : ℕ → Place K) (n : ℕ) (bytes : List ℕ) (p : P) (work out : List ℕ) (a : Result ℕ Refusal) (q : P) (work' out' : List ℕ) : Type 0 where
    pub answers : outcome_of a ≡ end_outcome e
    pub amounts : amount a ≡ end_amount e (length bytes)
    pub fills : work' ≡ end_codes e (λ k. code_at o (place k)) n work
    pub writes : out' ≡ end_bytes e bytes out
    pub counts : count q ≡ end_count e (count p)
    pub keeps : model q ≡ model p

-- how many rows and places the next strip of height s has
abbrev pub rows_of : RowWriter → ℕ → ℕ
rows_of w s = min s (w.size.height - w.next)

abbrev pub places_of : RowWriter → ℕ → ℕ
places_of w s = w.size.width * rows_of w s

-- the places of a picture behind those that are written
abbrev pub ahead : {K : Type 0} → Image K → RowWriter → ℕ → Place K
ahead i w k = place_of i (w.size.width * w.next + k)

module _ {K S : Type 0} (o : Ops K S) where
  -- the writer was begun for a picture of this size, maxval and kind
  abbrev pub fits : Image K → RowWriter → Bool
  fits i w = (w.size.width == i.width && w.size.height == i.height) && (w.size.maxval == i.maxval && w.mark == o.mark)

  -- 13, then 15, then 11; by the lengths of the two buffers
  abbrev pub strip_check : Image K → RowWriter → ℕ → ℕ → ℕ → Option ℕ
  strip_check i w s work out =
      cond (fits i w)
      (cond (rows_of w s == 0) (Some 15)
      (cond (nat_le (places_of w s) work && nat_le (places_of w s * pixel_width o w.size.maxval) out) None (Some 11)))
      (Some 13)

  unfoldable pub strip_end : Image K → RowWriter → ℕ → ℕ → ℕ → End
  strip_end i w s work out = ending (strip_check i w s work out) (first_fault (ahead i w) (places_of w s))

  abbrev pub strip_bytes : Image K → RowWriter → ℕ → List ℕ
  strip_bytes i w s = reading o i (w.size.width * w.next) (places_of w s)

  -- begin with a picture and a buffer, which is out' behind it
  pub record Opened (i : Image K) (out : List ℕ) (n : ℕ) (w : RowWriter) (out' : List ℕ) : Type 0 where
    pub amounts : n ≡ length (header_of o i)
    pub writes : out' ≡ over (header_of o i) out
    pub width : w.size.width ≡ i.width
    pub height : w.size.height ≡ i.height
    pub maxval : w.size.maxval ≡ i.maxval
    pub mark : w.mark ≡ o.mark
    pub next : w.next ≡ 0

  abbrev pub Begun : Image K → List ℕ → Result (ℕ × RowWriter) Refusal → List ℕ → Type 0
  Begun i out (Ok x) out' = Opened i out x.0 x.1 out'
  Begun i out (Err e) out' = (length out < length (header_of o i)) × (told e ≡ refused 11 []) × (out' ≡ out)

module _ {P K S : Type 0} (o : Ops K S) (model : P → Model K) (count : P → ℕ) where
  -- a strip of height s of p by the writer w, which are q and w' behind it
  pub record Strip (p : P) (s : ℕ) (w : RowWriter) (work out : List ℕ) (a : Result ℕ Refusal) (q : P) (w' : RowWriter) (work' out' : List ℕ) : Type 0 where
    pub part : Wrote o model count (strip_end o (model p).shown w s (length work) (length out)) (ahead (model p).shown w) (places_of w s) (strip_bytes o (model p).shown w s) p work out a q work' out'
    pub next : w'.next ≡ w.next + end_amount (strip_end o (model p).shown w s (length work) (length out)) (rows_of w s)
    pub size : w'.size ≡ w.size
    pub mark : w'.mark ≡ w.mark

-- all rows are written, or 16 and the writer
abbrev pub Finished : RowWriter → Result Unit (Refused RowWriter) → Type 0
Finished w (Ok _) = w.next ≡ w.size.height
Finished w (Err e) = (w.next < w.size.height) × (told e.refusal ≡ refused 16 []) × (e.back ≡ w)
