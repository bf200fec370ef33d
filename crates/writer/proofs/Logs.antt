-- Behind any log the strips that were answered are the rows so far.
use Rattle.std.proofs.Common.{◌≡◌, ℕ, ◌+◌, ◌*◌, List, [], ◌++◌, length, take, Result, sym, refl, ap, ◌∙◌, subst, add-zero, mul-zero, zero-add, mul-add}
use Rattle.std.proofs.lemmas.List.{append-nil}
use Rattle.pixel.specs.Ops.{Ops}
use Rattle.picture.specs.declared.fault.Refusal.{Refusal}
use Rattle.picture.specs.Images.{Image, Model}
use Rattle.picture.specs.Compose.{Composed}
use Rattle.writer.specs.declared.row_writer.RowWriter.{RowWriter}
use Rattle.writer.specs.File.{place_of, place_bytes, reading, header_of, file}
use Rattle.writer.specs.Calls.{End, early, holed, wrote, amount, end_amount, end_bytes, rows_of, strip_bytes, strip_end, Opened, Strip}
use Rattle.writer.specs.Log.{Call, prepared, forgot, stripped, tiled, filed, Log, Strips, Joined}
use Rattle.writer.specs.Log as log
use Rattle.writer.proofs.Paste.{take-over}
use Rattle.writer.proofs.Joins.{joined_parts}

module _ {K S : Type 0} (o : Ops K S) where
  pub reading_join : (i : Image K) (a n m : ℕ) → reading o i a n ++ reading o i (a + n) m ≡ reading o i a (n + m)
  unfolding reading
  reading_join i a n m = sym (joined_parts (λ k. place_bytes o i.maxval (place_of i k)) a n m)

  pub reading-none : (i : Image K) (a : ℕ) → reading o i a 0 ≡ []
  unfolding reading
  reading-none i a = refl

  -- a strip adds the rows that it answered
  rows_more : (i : Image K) (v v' : RowWriter) (s n : ℕ) (out out' bytes : List ℕ) (e : End)
      → n ≡ end_amount e (length (strip_bytes o i v s)) → out' ≡ end_bytes e (strip_bytes o i v s) out → v'.next ≡ v.next + end_amount e (rows_of v s)
      → v.size.width ≡ i.width → bytes ≡ reading o i 0 (i.width * v.next) → bytes ++ take n out' ≡ reading o i 0 (i.width * v'.next)
  rows_more i v v' s n out out' bytes (early k) a w x z b =
      ap (λ c. bytes ++ take c out') a ∙ append-nil bytes ∙ b ∙ ap (λ y. reading o i 0 (i.width * y)) (sym (x ∙ add-zero v.next))
  rows_more i v v' s n out out' bytes (holed f) a w x z b =
      ap (λ c. bytes ++ take c out') a ∙ append-nil bytes ∙ b ∙ ap (λ y. reading o i 0 (i.width * y)) (sym (x ∙ add-zero v.next))
  rows_more i v v' s n out out' bytes wrote a w x z b =
      let got : take n out' ≡ strip_bytes o i v s = ap (take n) w ∙ take-over (strip_bytes o i v s) out n a in
      ap (λ t. t ++ take n out') b ∙ ap (λ t. reading o i 0 (i.width * v.next) ++ t) got
      ∙ ap (λ k. reading o i 0 (i.width * v.next) ++ reading o i (k * v.next) (k * rows_of v s)) z
      ∙ ap (λ k. reading o i 0 (i.width * v.next) ++ reading o i k (i.width * rows_of v s)) (sym (zero-add (i.width * v.next)))
      ∙ reading_join i 0 (i.width * v.next) (i.width * rows_of v s)
      ∙ ap (reading o i 0) (sym (mul-add i.width v.next (rows_of v s)) ∙ ap (λ k. i.width * k) (sym x))

module _ {P K S : Type 0} (o : Ops K S) (model : P → Model K) (count : P → ℕ) (bare : P → Type 0) where
  called : (p q : P) → Call o model count bare p q → model q ≡ model p
  called p q (prepared x) = x.keeps
  called p q (forgot x) = x.keeps
  called p q (stripped x) = x.part.keeps
  called p q (tiled x) = x.part.keeps
  called p q (filed x) = x.keeps

  pub logged : (p q : P) → Log o model count bare p q → model q ≡ model p
  logged p q log.start = refl
  logged p q (log.next {q = m} l c) = called m q c ∙ logged p m l

  -- how far a writer has come
  record Far (m : Model K) (q : P) (v : RowWriter) (got : List ℕ) : Type 0 where
    pub kept : model q ≡ m
    pub width : v.size.width ≡ m.shown.width
    pub height : v.size.height ≡ m.shown.height
    pub bytes : got ≡ reading o m.shown 0 (m.shown.width * v.next)

  strip_far : (m : Model K) (q r : P) (v v' : RowWriter) (bytes : List ℕ) (s : ℕ) (work work' out out' : List ℕ) (a : Result ℕ Refusal)
      → Far m q v bytes → Strip o model count q s v work out a r v' work' out' → Far m r v' (bytes ++ take (amount a) out')
  strip_far m q r v v' bytes s work work' out out' a f x =
      let i = (model q).shown in
      let k : (model q).shown ≡ m.shown = ap (λ (z : Model K). z.shown) f.kept in
      let D : Image K → Type 0 = λ z. bytes ≡ reading o z 0 (z.width * v.next) in
      let E : Image K → Type 0 = λ z. bytes ++ take (amount a) out' ≡ reading o z 0 (z.width * v'.next) in
      record {
        kept = x.part.keeps ∙ f.kept;
        width = ap (λ z. z.width) x.size ∙ f.width;
        height = ap (λ z. z.height) x.size ∙ f.height;
        bytes = subst E k (rows_more o i v v' s (amount a) out out' bytes (strip_end o i v s (length work) (length out)) x.part.amounts x.part.writes x.next
            (f.width ∙ ap (λ (z : Image K). z.width) (sym k)) (subst D (sym k) f.bytes));
      }

  far : (m : Model K) (p : P) (w : RowWriter) → Far m p w [] → (q : P) (v : RowWriter) (bytes : List ℕ) → Strips o model count bare p w q v bytes → Far m q v bytes
  far m p w f q v bytes log.Strips.start = f
  far m p w f q v bytes (log.other {q = n} l c) =
      let h = far m p w f n v bytes l in
      record { kept = called n q c ∙ h.kept; width = h.width; height = h.height; bytes = h.bytes }
  far m p w f q v bytes (log.strip {q = n} {v = u} {bytes = bs} {s = s} {work = work} {work' = work'} {out = out} {out' = out'} {a = a} l x) =
      strip_far m n q u v bs s work work' out out' a (far m p w f n u bs l) x

  -- the header and the strips joined are the file
  pub joined-file : ((p : P) → Composed o (model p)) → (p : P) (out : List ℕ) (n : ℕ) (w : RowWriter) (out' : List ℕ) → Opened o (model p).shown out n w out'
      → Joined o model count bare p (take n out') w
  joined-file law p out n w out' b q v bytes l done =
      let i = (model p).shown in
      let first : Far (model p) p w [] = record {
        kept = refl;
        width = b.width;
        height = b.height;
        bytes = sym (reading-none o i 0) ∙ ap (reading o i 0) (sym (ap (λ k. i.width * k) b.next ∙ mul-zero i.width));
      } in
      let f = far (model p) p w first q v bytes l in
      ap (λ t. t ++ bytes) (ap (take n) b.writes ∙ take-over (header_of o i) out n b.amounts)
      ∙ ap (λ t. header_of o i ++ t) (f.bytes ∙ ap (λ k. reading o i 0 (i.width * k)) (done ∙ f.height))
      ∙ ap (file o) (law p)
