-- One strip after another up to the last row.
use Rattle.std.proofs.Common.{◌≡◌, ℕ, ◌+◌, ◌-◌, ◌*◌, ◌<◌, ◌≤◌, min, true, false, ◌&&◌, eqb, leb, ◌⊎◌, List, [], ◌++◌, length, take, drop, Some, None, Ok, Err, Option, Result, sym, refl, ap, ◌∙◌, subst, inl, inr, mul-le-mul_right, add-mul, zero-add, mul-add, arith, length-append}
use borrow.Rule.Slice.PartMut.{put_mid}
use Rattle.std.proofs.lemmas.Nat.{mul-le}
use Rattle.std.proofs.lemmas.Bool.{and_from, and_left, and_right, cond-true, cond-false, eq-eqb, ne_eqb, le-leb, lt-leb}
use Rattle.pixel.specs.Ops.{Ops}
use Rattle.picture.specs.declared.fault.Fault.{Fault}
use Rattle.picture.specs.declared.fault.Refusal.{Refusal}
use Rattle.picture.specs.Refusals.{done, refused, told}
use Rattle.picture.specs.Places.{or_else, first_fault}
use Rattle.picture.specs.Images.{Image, Model}
use Rattle.picture.proofs.Faults.{first_append, first_same, first_stays}
use Rattle.writer.specs.declared.row_writer.RowWriter.{RowWriter}
use Rattle.writer.specs.File.{place_of, pixel_width, reading, header_of, raster, file}
use Rattle.writer.specs.Whole.{file_width, file_end, Left, Filed}
use Rattle.writer.specs.Calls.{End, early, wrote, ending, outcome_of, amount, end_outcome, end_amount, end_bytes, over, rows_of, places_of, ahead, fits, strip_end, strip_bytes, Strip}
use Rattle.writer.proofs.Paste.{over_next, length-over}
use Rattle.writer.proofs.Codes.{reading_long}
use Rattle.writer.proofs.Nexts.{as_wide, as_high, as_bright, ahead_in, end_open}
use Rattle.writer.proofs.Logs.{reading_join}

pub not_done : (e : Refusal) → told e ≡ done → ⊥
not_done e h = let z : ◌≡◌ {A = ℕ} 0 1 = cc in omega arith

no_hole : (x : Option Fault) → done ≡ end_outcome (ending None x) → x ≡ None
no_hole None e = refl
no_hole (Some f) e = let z : ◌≡◌ {A = ℕ} 0 1 = cc in absurd (omega arith)

a_hole : (x : Option Fault) (k : ℕ) (vs : List ℕ) → refused k vs ≡ end_outcome (ending None x) → (f : Fault) × (x ≡ Some f)
a_hole None k vs e = let z : ◌≡◌ {A = ℕ} 0 1 = cc in absurd (omega arith)
a_hole (Some f) k vs e = (f, refl)

module _ {K S : Type 0} (o : Ops K S) where
  pub fits_same : (i : Image K) (w v : RowWriter) → v.size ≡ w.size → v.mark ≡ w.mark → fits o i w ≡ true → fits o i v ≡ true
  fits_same i w v e k h =
      ap (λ z. (eqb z.width i.width && eqb z.height i.height) && (eqb z.maxval i.maxval && eqb v.mark o.mark)) e
      ∙ ap (λ n. (eqb w.size.width i.width && eqb w.size.height i.height) && (eqb w.size.maxval i.maxval && eqb n o.mark)) k ∙ h

  first_zero : (i : Image K) (n : ℕ) → first_fault (place_of i) n ≡ None → first_fault (λ k. place_of i (0 + k)) n ≡ None
  first_zero i n e = first_same (λ k. place_of i (0 + k)) (place_of i) n (λ k h. ap (place_of i) (zero-add k)) ∙ e

  -- a strip of the picture i
  pub record Turn (i : Image K) (v : RowWriter) (s lw : ℕ) (part : List ℕ) (a : Result ℕ Refusal) (v' : RowWriter) (part' : List ℕ) : Type 0 where
    pub answers : outcome_of a ≡ end_outcome (strip_end o i v s lw (length part))
    pub amounts : amount a ≡ end_amount (strip_end o i v s lw (length part)) (length (strip_bytes o i v s))
    pub writes : part' ≡ end_bytes (strip_end o i v s lw (length part)) (strip_bytes o i v s) part
    pub next : v'.next ≡ v.next + end_amount (strip_end o i v s lw (length part)) (rows_of v s)

  pub turned : {P : Type 0} (model : P → Model K) (count : P → ℕ) (i : Image K) (p : P) (s : ℕ) (v : RowWriter) (work part : List ℕ) (a : Result ℕ Refusal) (q : P) (v' : RowWriter) (work' part' : List ℕ)
      → (model p).shown ≡ i → Strip o model count p s v work part a q v' work' part' → Turn i v s (length work) part a v' part'
  turned model count i p s v work part a q v' work' part' e x =
      let D : Image K → Type 0 = λ z. Turn z v s (length work) part a v' part' in
      subst D e (record { answers = x.part.answers; amounts = x.part.amounts; writes = x.part.writes; next = x.next })

  -- the writer has come so far
  pub record Far (i : Image K) (v : RowWriter) (end : ℕ) (first out : List ℕ) : Type 0 where
    pub fit : fits o i v ≡ true
    pub room : i.width * i.height * pixel_width o i.maxval ≤ length out
    pub long : length out ≡ length first
    pub ends : end ≡ i.width * v.next * pixel_width o i.maxval
    pub bytes : out ≡ over (reading o i 0 (i.width * v.next)) first
    pub clean : first_fault (place_of i) (i.width * v.next) ≡ None

  module _ (i : Image K) (v : RowWriter) (end : ℕ) (first out : List ℕ) (far : Far i v end first out) where
    -- the bytes of the next strip fit
    next_room : (s : ℕ) → end + places_of v s * pixel_width o i.maxval ≤ length out
    next_room s =
        let w : ℕ = pixel_width o i.maxval in
        let a = mul-le-mul_right w (ahead_in o i v far.fit s) in
        let b = add-mul (v.size.width * v.next) (places_of v s) w in
        let c : v.size.width * v.next * w ≡ i.width * v.next * w = ap (λ k. k * v.next * w) (as_wide o i v far.fit) in
        let d = far.room in
        let e = far.ends in
        omega arith

    pub end_in : end ≤ length out
    end_in = let h = next_room 0 in omega arith

    module _ (s lw : ℕ) (part : List ℕ) (more : v.next < v.size.height) (some : 1 ≤ s) (codes : i.width * min s i.height ≤ lw) (plen : length part ≡ length out - end) where
      open_end : strip_end o i v s lw (length part) ≡ ending None (first_fault (ahead i v) (places_of v s))
      open_end =
          let W = as_wide o i v far.fit in
          let H = as_high o i v far.fit in
          let M = as_bright o i v far.fit in
          let a : places_of v s ≤ i.width * min s i.height = mul-le v.size.width (rows_of v s) i.width (min s i.height) (omega arith) (omega arith) in
          let b = next_room s in
          let c : places_of v s * pixel_width o v.size.maxval ≡ places_of v s * pixel_width o i.maxval = ap (λ k. places_of v s * pixel_width o k) M in
          end_open o i v s lw (length part) far.fit (λ z. omega arith) (omega arith) (omega arith)

      fault_more : first_fault (place_of i) (i.width * v.next + places_of v s) ≡ first_fault (ahead i v) (places_of v s)
      fault_more =
          first_append (place_of i) (i.width * v.next) (places_of v s) ∙ ap (λ x. or_else x (first_fault (λ k. place_of i (i.width * v.next + k)) (places_of v s))) far.clean
          ∙ ap (λ n. first_fault (λ k. place_of i (n * v.next + k)) (places_of v s)) (sym (as_wide o i v far.fit))

      -- a strip that was refused told the first hole of the picture
      pub turn_holed : (e : Refusal) (v' : RowWriter) (part' : List ℕ) → Turn i v s lw part (Err e) v' part' → told e ≡ end_outcome (ending None (first_fault (place_of i) (i.width * i.height)))
      turn_holed e v' part' t =
          let h : told e ≡ end_outcome (ending None (first_fault (ahead i v) (places_of v s))) = t.answers ∙ ap end_outcome open_end in
          let f = a_hole (first_fault (ahead i v) (places_of v s)) _ _ h in
          let l : i.width * v.next + places_of v s ≤ i.width * i.height =
          let a = ahead_in o i v far.fit s in let c : v.size.width * v.next ≡ i.width * v.next = ap (λ k. k * v.next) (as_wide o i v far.fit) in omega arith in
          let all = first_stays (place_of i) (i.width * v.next + places_of v s) (i.width * i.height) f.0 l (fault_more ∙ f.1) in
          h ∙ ap (λ x. end_outcome (ending None x)) (f.1 ∙ sym all)

      -- a strip that was answered went on
      pub turn_wrote : (deep : (p : K) → length (o.samples p) ≡ o.depth) (n : ℕ) (v' : RowWriter) (part' : List ℕ) → Turn i v s lw part (Ok n) v' part' → part ≡ take (length out - end) (drop end out) → v'.size ≡ v.size → v'.mark ≡ v.mark
          → (v'.next ≡ v.next + rows_of v s) × Far i v' (end + n) first (put_mid end (length out - end) out part')
      turn_wrote deep n v' part' t pe es ek =
          let w : ℕ = pixel_width o i.maxval in
          let W = as_wide o i v far.fit in
          let clean : first_fault (ahead i v) (places_of v s) ≡ None = no_hole (first_fault (ahead i v) (places_of v s)) (t.answers ∙ ap end_outcome open_end) in
          let is : strip_end o i v s lw (length part) ≡ wrote = open_end ∙ ap (ending None) clean in
          let nx : v'.next ≡ v.next + rows_of v s = t.next ∙ ap (λ e. v.next + end_amount e (rows_of v s)) is in
          let am : n ≡ places_of v s * w = t.amounts ∙ ap (λ e. end_amount e (length (strip_bytes o i v s))) is ∙ reading_long o deep i (v.size.width * v.next) (places_of v s) clean in
          let bytes : strip_bytes o i v s ≡ reading o i (i.width * v.next) (i.width * rows_of v s) = ap (λ k. reading o i (k * v.next) (k * rows_of v s)) W in
          let pl : places_of v s ≡ i.width * rows_of v s = ap (λ k. k * rows_of v s) W in
          let mv : i.width * v'.next ≡ i.width * v.next + i.width * rows_of v s = ap (λ k. i.width * k) nx ∙ mul-add i.width v.next (rows_of v s) in
          let len0 : length (reading o i 0 (i.width * v.next)) ≡ i.width * v.next * w = reading_long o deep i 0 (i.width * v.next) (first_zero i (i.width * v.next) far.clean) in
          let len1 : length (strip_bytes o i v s) ≡ places_of v s * w = reading_long o deep i (v.size.width * v.next) (places_of v s) clean in
          let ends = far.ends in
          let room = next_room s in
          let long = far.long in
          let step : put_mid end (length out - end) out part' ≡ over (reading o i 0 (i.width * v.next) ++ strip_bytes o i v s) first =
          over_next first out part' (reading o i 0 (i.width * v.next)) (strip_bytes o i v s) end far.bytes (omega arith) (omega arith)
          (t.writes ∙ ap (λ e. end_bytes e (strip_bytes o i v s) part) is ∙ ap (over (strip_bytes o i v s)) pe) in
          let all : put_mid end (length out - end) out part' ≡ over (reading o i 0 (i.width * v'.next)) first =
          step ∙ ap (λ x. over (reading o i 0 (i.width * v.next) ++ x) first) (bytes ∙ ap (λ k. reading o i k (i.width * rows_of v s)) (sym (zero-add (i.width * v.next))))
          ∙ ap (λ x. over x first) (reading_join o i 0 (i.width * v.next) (i.width * rows_of v s) ∙ ap (reading o i 0) (sym mv)) in
          let len : length (put_mid end (length out - end) out part') ≡ length first =
          ap length step ∙ length-over (reading o i 0 (i.width * v.next) ++ strip_bytes o i v s) first (omega (arith, length-append (reading o i 0 (i.width * v.next)) (strip_bytes o i v s))) in (
            nx,
            record {
              fit = fits_same i v v' es ek far.fit;
              room = let h = far.room in omega arith;
              long = len;
              ends = let q : i.width * v'.next * w ≡ i.width * v.next * w + places_of v s * w = ap (λ k. k * w) (mv ∙ ap (λ k. i.width * v.next + k) (sym pl)) ∙ add-mul (i.width * v.next) (places_of v s) w in omega arith;
              bytes = all;
              clean = ap (first_fault (place_of i)) (mv ∙ ap (λ k. i.width * v.next + k) (sym pl)) ∙ fault_more ∙ clean;
            },
          )

    -- behind the last row all is written
    pub all_written : (deep : (p : K) → length (o.samples p) ≡ o.depth) → v.next ≡ v.size.height
        → (first_fault (place_of i) (i.width * i.height) ≡ None) × (out ≡ over (raster o i) first) × (end ≡ length (raster o i))
    all_written deep e =
        let n : i.width * v.next ≡ i.width * i.height = ap (λ k. i.width * k) (e ∙ as_high o i v far.fit) in
        let clean : first_fault (place_of i) (i.width * i.height) ≡ None = ap (first_fault (place_of i)) (sym n) ∙ far.clean in
        let l = reading_long o deep i 0 (i.width * i.height) (first_zero i (i.width * i.height) clean) in
        (clean, far.bytes ∙ ap (λ k. over (reading o i 0 k) first) n, far.ends ∙ ap (λ k. k * pixel_width o i.maxval) n ∙ sym l)

  module _ (i : Image K) (s l m : ℕ) where
    pub end_zero : s ≡ 0 → file_end o i s l m ≡ early 15
    unfolding file_end
    end_zero e = ap (λ x. ending x (first_fault (place_of i) (i.width * i.height))) (cond-true _ _ _ (eq-eqb s 0 e))

    module _ (some : s ≡ 0 → ⊥) where
      pub end_short : (l < i.width * min s i.height) ⊎ (m < file_width o i) → file_end o i s l m ≡ early 11
      unfolding file_end
      end_short h =
          let no : leb (i.width * min s i.height) l && leb (file_width o i) m ≡ false = elim h [
            | inl p ↦ and_left _ (leb (file_width o i) m) (lt-leb (i.width * min s i.height) l p)
            | inr p ↦ and_right (leb (i.width * min s i.height) l) _ (lt-leb (file_width o i) m p)
          ] in
          ap (λ x. ending x (first_fault (place_of i) (i.width * i.height))) (cond-false _ _ _ (ne_eqb s 0 some) ∙ cond-false _ _ _ no)

      pub end_room : i.width * min s i.height ≤ l → file_width o i ≤ m → file_end o i s l m ≡ ending None (first_fault (place_of i) (i.width * i.height))
      unfolding file_end
      end_room p q =
          ap (λ x. ending x (first_fault (place_of i) (i.width * i.height)))
          (cond-false _ _ _ (ne_eqb s 0 some) ∙ cond-true _ _ _ (and_from _ _ (le-leb (i.width * min s i.height) l p) (le-leb (file_width o i) m q)))

  module _ {P : Type 0} (model : P → Model K) (count : P → ℕ) (p : P) (s : ℕ) (work out : List ℕ) where
    pub early_filed : (n : ℕ) (e : Refusal) → file_end o (model p).shown s (length work) (length out) ≡ early n → told e ≡ refused n [] → Filed o model count p s work out (Err e) p work out
    early_filed n e q t =
        let D : End → Type 0 = λ z. Left o model count z p work out p work out in
        record {
          answers = t ∙ ap end_outcome (sym q);
          amounts = ap (λ z. end_amount z (length (file o (model p).shown))) (sym q);
          leaves = subst D (sym q) (refl, refl, refl);
          keeps = refl;
        }

    none_written : (a : Result ℕ Refusal) (k : ℕ) (vs : List ℕ) → outcome_of a ≡ refused k vs → amount a ≡ 0
    none_written (Ok n) k vs e = let z : ◌≡◌ {A = ℕ} 0 1 = cc in absurd (omega arith)
    none_written (Err r) k vs e = refl

    pub filed : (a : Result ℕ Refusal) (q : P) (work' out' : List ℕ) (x : Option Fault) → file_end o (model p).shown s (length work) (length out) ≡ ending None x → outcome_of a ≡ end_outcome (ending None x)
        → (outcome_of a ≡ done → (out' ≡ over (file o (model p).shown) out) × (amount a ≡ length (file o (model p).shown))) → model q ≡ model p → Filed o model count p s work out a q work' out'
    filed a q work' out' None e t w k =
        let D : End → Type 0 = λ z. Left o model count z p work out q work' out' in
        record {
          answers = t ∙ ap end_outcome (sym e);
          amounts = (w t).1 ∙ ap (λ z. end_amount z (length (file o (model p).shown))) (sym e);
          leaves = subst D (sym e) (w t).0;
          keeps = k;
        }
    filed a q work' out' (Some f) e t w k =
        let D : End → Type 0 = λ z. Left o model count z p work out q work' out' in
        record {
          answers = t ∙ ap end_outcome (sym e);
          amounts = none_written a _ _ t ∙ ap (λ z. end_amount z (length (file o (model p).shown))) (sym e);
          leaves = subst D (sym e) tt;
          keeps = k;
        }

  -- the header, and then the raster behind it, are the file
  pub file-written : (i : Image K) (out out1 part : List ℕ) (head : ℕ) → out1 ≡ over (header_of o i) out → head ≡ length (header_of o i) → part ≡ over (raster o i) (take (length out1 - head) (drop head out1))
      → head + length (raster o i) ≤ length out → put_mid head (length out1 - head) out1 part ≡ over (file o i) out
  file-written i out out1 part head e1 el e2 fit = over_next out out1 part (header_of o i) (raster o i) head e1 el fit e2

  pub raster_long : (deep : (p : K) → length (o.samples p) ≡ o.depth) (i : Image K) → done ≡ end_outcome (ending None (first_fault (place_of i) (i.width * i.height))) → length (raster o i) ≡ i.width * i.height * pixel_width o i.maxval
  raster_long deep i e = reading_long o deep i 0 (i.width * i.height) (first_zero i (i.width * i.height) (no_hole (first_fault (place_of i) (i.width * i.height)) e))
