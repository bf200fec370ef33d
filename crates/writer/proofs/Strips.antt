-- A strip of a row writer that has room for it.
use Rattle.std.proofs.Common.{◌≡◌, ℕ, ◌+◌, ◌*◌, ◌<◌, ◌≤◌, true, List, length, get_or, take, Some, None, Ok, Err, Result, sym, refl, ap, ◌∙◌, subst, arith}
use Rattle.std.specs.List.{flat_map}
use Rattle.std.proofs.lemmas.List.{get_or-take}
use Rattle.pixel.specs.Ops.{Ops}
use Rattle.pixel.specs.Widths.{pixel_width}
use Rattle.picture.specs.declared.fault.Refusal.{Refusal}
use Rattle.picture.specs.declared.rect.Rect.{Rect}
use Rattle.picture.specs.Places.{first_fault}
use Rattle.picture.specs.Images.{Model, Bounded}
use Rattle.picture.specs.Prepare.{put, code_at, Prepared}
use Rattle.writer.specs.declared.row_writer.RowWriter.{RowWriter}
use Rattle.writer.specs.Layout.{code_bytes, Known}
use Rattle.writer.specs.Calls.{over, ending, outcome_of, fits, rows_of, places_of, ahead, strip_bytes, strip_end, Strip}
use Rattle.writer.proofs.Ends as ends
use Rattle.writer.proofs.Ends.{Part}
use Rattle.writer.proofs.Codes as codes
use Rattle.writer.proofs.Nexts.{as_bright, ahead_in, rows_part, end_open}

-- b is the width of a pixel, and there are so many rows
module _ {P K S : Type 0} (o : Ops K S) (model : P → Model K) (count : P → ℕ) (p : P) (s : ℕ) (w : RowWriter) (work out : List ℕ) (rows b : ℕ)
    (fit : fits o (model p).shown w ≡ true) (many : rows ≡ rows_of w s) (wide : b ≡ pixel_width o w.size.maxval) (some : rows ≡ 0 → ⊥)
    (room : w.size.width * rows ≤ length work) (long : w.size.width * rows * b ≤ length out) where
  abbrev pub n : ℕ
  n = w.size.width * rows

  places : n ≡ places_of w s
  places = ap (λ k. w.size.width * k) many

  bytes : n * b ≡ places_of w s * pixel_width o w.size.maxval
  bytes = ap (λ k. k * b) places ∙ ap (λ k. places_of w s * k) wide

  opens : strip_end o (model p).shown w s (length work) (length out) ≡ ending None (first_fault (ahead (model p).shown w) (places_of w s))
  opens =
      let pl = places in
      let by = bytes in
      end_open o (model p).shown w s (length work) (length out) fit (λ z. some (many ∙ z)) (omega arith) (omega arith)

  -- the rows were asked of the picture
  module _ (q : P) (work' : List ℕ) (r : Rect) where
    part_is : r.left ≡ 0 → r.top ≡ w.next → r.width ≡ w.size.width → r.height ≡ rows → Part (model p).shown r (ahead (model p).shown w) (places_of w s)
    part_is l t u h = rows_part o (model p).shown w fit s r l t u (h ∙ many)

    -- they have a hole
    pub told : (e : Refusal) (a : Result ℕ Refusal) → Prepared o model count p r work (Err e) q work' → a ≡ Err e
        → r.left ≡ 0 → r.top ≡ w.next → r.width ≡ w.size.width → r.height ≡ rows → Strip o model count p s w work out a q w work' out
    told e a d x l t u h =
        let i = (model p).shown in
        let end = strip_end o i w s (length work) (length out) in
        let pl = places in
        let y = ends.holed-wrote o model count (ahead i w) (places_of w s) (strip_bytes o i w s) p work out r q work' (part_is l t u h) (omega arith) a e end x opens d in
        record { part = y; next = let z = ends.idle end (rows_of w s) _ _ (sym (ap outcome_of x) ∙ y.answers) in omega arith; size = refl; mark = refl }

    -- they have none
    module _ (d : Prepared o model count p r work (Ok tt) q work') (left : r.left ≡ 0) (top : r.top ≡ w.next) (width : r.width ≡ w.size.width) (height : r.height ≡ rows) where
      clean : first_fault (ahead (model p).shown w) (places_of w s) ≡ None
      clean =
          let pl = places in
          ends.clean o model count (ahead (model p).shown w) (places_of w s) (strip_bytes o (model p).shown w s) p work out r q work' (part_is left top width height) (omega arith) d

      codes_are : work' ≡ put None (λ k. code_at o (ahead (model p).shown w k)) (places_of w s) work
      codes_are =
          let pl = places in
          ends.codes_are o model count (ahead (model p).shown w) (places_of w s) (strip_bytes o (model p).shown w s) p work out r q work' (part_is left top width height) (omega arith) d

      bright : w.size.maxval ≡ (model p).shown.maxval
      bright = as_bright o (model p).shown w fit

      -- each code is a pixel's
      pub known : ((k : K) → o.decode (o.code k) ≡ Some k) → Bounded o (model p).shown → (k : ℕ) → k < n → Known o w.size.maxval (o.decode (get_or (take n work') k 0))
      known decodes bounded k h =
          let i = (model p).shown in
          let pl = places in
          let D : ℕ → Type 0 = λ x. Known o w.size.maxval (o.decode x) in
          let E : ℕ → Type 0 = λ m. Known o m (o.decode (get_or (put None (λ j. code_at o (ahead i w j)) (places_of w s) work) k 0)) in
          subst D (sym (get_or-take n work' k 0 h ∙ ap (λ t. get_or t k 0) codes_are))
          (subst E (sym bright)
          (codes.known o decodes i.maxval (ahead i w) (places_of w s) work clean (λ j l. codes.place_dim o i bounded (w.size.width * w.next + j) (omega (arith, ahead_in o i w fit s))) k (omega arith)))

      -- their bytes are written at the start
      pub put_down : ((k : K) → o.decode (o.code k) ≡ Some k) → ((k : K) → length (o.samples k) ≡ o.depth) → (w' : RowWriter) (out' : List ℕ)
          → w'.next ≡ w.next + rows → w'.size ≡ w.size → w'.mark ≡ w.mark → out' ≡ over (flat_map (code_bytes o w.size.maxval) (take n work')) out
          → Strip o model count p s w work out (Ok (n * b)) q w' work' out'
      put_down decodes deep w' out' next size mark z =
          let i = (model p).shown in
          let m = w.size.maxval in
          let pl = places in
          let end = strip_end o i w s (length work) (length out) in
          let read : flat_map (code_bytes o m) (take n work') ≡ strip_bytes o i w s =
          ap (λ k. flat_map (code_bytes o m) (take k work')) pl ∙ ap (λ t. flat_map (code_bytes o m) (take (places_of w s) t)) codes_are
          ∙ ap (λ k. flat_map (code_bytes o k) (take (places_of w s) (put None (λ j. code_at o (ahead i w j)) (places_of w s) work))) bright
          ∙ codes.codes_reading o decodes i (w.size.width * w.next) (places_of w s) work clean in
          let ln = codes.reading_long o deep i (w.size.width * w.next) (places_of w s) clean ∙ ap (λ k. places_of w s * pixel_width o k) (sym bright) in
          let y = ends.done_wrote o model count (ahead i w) (places_of w s) (strip_bytes o i w s) p work out r q work' (part_is left top width height) (omega arith) d
          end (n * b) out' opens (bytes ∙ sym ln) (z ∙ ap (λ t. over t out) read) in
          record { part = y; next = next ∙ ap (λ k. w.next + k) (many ∙ sym (ends.full end (rows_of w s) y.answers)); size = size; mark = mark }
