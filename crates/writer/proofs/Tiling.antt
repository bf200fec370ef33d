-- A tile of a picture, from the numbers that its writing computes.
use Rattle.std.proofs.Common.{◌≡◌, ℕ, ◌+◌, ◌-◌, ◌*◌, ◌<◌, ◌≤◌, ◌⊎◌, false, List, length, get_or, take, drop, ℤ, Some, None, Ok, Err, Option, Result, sym, refl, ap, ◌∙◌, subst, inl, inr, mul_comm, arith}
use borrow.Rule.Slice.PartMut.{put_mid}
use Rattle.pixel.specs.Ops.{Ops}
use Rattle.pixel.specs.Widths.{pixel_width}
use Rattle.picture.specs.declared.fault.Refusal.{Refusal}
use Rattle.picture.specs.declared.fault.Refusal.TheVariants.{NoTile, BufferTooShort}
use Rattle.picture.specs.declared.rect.Rect.{Rect}
use Rattle.picture.specs.declared.size.Size.{Size}
use Rattle.picture.specs.Places.{Place, pixel, first_fault}
use Rattle.picture.specs.Images.{Model, Bounded}
use Rattle.picture.specs.Steps.{grounded, ground_of}
use Rattle.picture.specs.Compose.{taken}
use Rattle.picture.specs.Prepare.{area, put, code_at, Prepared}
use Rattle.writer.specs.File.{place_of, header, file}
use Rattle.writer.specs.Layout.{Known, square_bytes}
use Rattle.writer.specs.Calls.{ending, over}
use Rattle.writer.specs.Tiles.{Seen, tiles, Cut, cut, tile, cut_places, tile_width, tile_end, Tiled}
use Rattle.writer.proofs.Ends as ends
use Rattle.writer.proofs.Ends.{Part}
use Rattle.writer.proofs.Codes as codes
use Rattle.writer.proofs.Squares as squares

-- z is the picture's size, and v the part that the tile shows
module _ {P K S : Type 0} (o : Ops K S) (model : P → Model K) (count : P → ℕ) (p : P) (c r side : ℕ) (work out : List ℕ)
    (z : Size) (width : z.width ≡ (model p).shown.width) (height : z.height ≡ (model p).shown.height) (maxval : z.maxval ≡ (model p).shown.maxval)
    (v : Option Rect) (seen : Seen z.width z.height c r side v) where
  seen_in : Seen (model p).shown.width (model p).shown.height c r side v
  seen_in =
      let D : ℕ → Type 0 = λ n. Seen n z.height c r side v in
      let E : ℕ → Type 0 = λ n. Seen (model p).shown.width n c r side v in
      subst E height (subst D width seen)

  pub none : (a : Result ℕ Refusal) → v ≡ None → a ≡ Err NoTile → Tiled o model count p c r side work out a p work out
  none a e t =
      let i = (model p).shown in
      let no : tiles i.width i.height c r side ≡ false = subst (λ (x : Option Rect). Seen i.width i.height c r side x) e seen_in in
      record { part = ends.early_wrote o model count _ _ _ p work out a NoTile _ 14 t (squares.end_none o i c r side (length work) (length out) no) refl }

  -- there is such a tile: the places of its part, and the bytes of its header and of a pixel
  module _ (x : Rect) (is : v ≡ Some x) (many head wide : ℕ) (places : many ≡ area x) (heads : (mark : ℕ) → head ≡ length (header mark side side z.maxval)) (wides : wide ≡ pixel_width o z.maxval) where
    cut_is : Cut (model p).shown.width (model p).shown.height c r side x
    cut_is = subst (λ (y : Option Rect). Seen (model p).shown.width (model p).shown.height c r side y) is seen_in

    part_is : Part (model p).shown x (place_of (cut o (model p).shown c r side)) (cut_places o (model p).shown c r side)
    part_is = squares.cut-part o (model p).shown c r side x cut_is

    places_are : many ≡ cut_places o (model p).shown c r side
    places_are = places ∙ part_is.many

    bytes_are : head + side * side * wide ≡ tile_width o (model p).shown c r side
    bytes_are =
        ap (λ n. n + side * side * wide) (heads o.mark) ∙ ap (λ n. length (header o.mark side side z.maxval) + side * side * n) wides
        ∙ ap (λ n. length (header o.mark side side n) + side * side * pixel_width o n) maxval

    pub short : (length work < many) ⊎ ((many ≤ length work) × (length out < head + side * side * wide)) → Tiled o model count p c r side work out (Err BufferTooShort) p work out
    short h =
        let i = (model p).shown in
        let m = places_are in
        let b = bytes_are in
        let s : (length work < cut_places o i c r side) ⊎ (length out < tile_width o i c r side) = elim h [ inl l ↦ inl (omega (arith, l)) | inr l ↦ inr (omega (arith, l.1)) ] in
        record { part = ends.early_wrote o model count _ _ _ p work out (Err BufferTooShort) BufferTooShort _ 11 refl (squares.end_short o i c r side (length work) (length out) cut_is.there s) refl }

    -- the part was asked of the picture
    module _ (room : many ≤ length work) (long : head + side * side * wide ≤ length out) (q : P) (work' : List ℕ) where
      fits : cut_places o (model p).shown c r side ≤ length work
      fits = let m = places_are in omega arith

      opens : tile_end o (model p).shown c r side (length work) (length out) ≡ ending None (first_fault (place_of (cut o (model p).shown c r side)) (cut_places o (model p).shown c r side))
      opens = let b = bytes_are in squares.end_open o (model p).shown c r side (length work) (length out) cut_is.there fits (omega arith)

      -- it has a hole
      pub told : (e : Refusal) (a : Result ℕ Refusal) → Prepared o model count p x work (Err e) q work' → a ≡ Err e → Tiled o model count p c r side work out a q work' out
      told e a d t =
          let i = (model p).shown in
          record {
            part = ends.holed-wrote o model count (place_of (cut o i c r side)) (cut_places o i c r side) (file o (tile o i c r side)) p work out x q work' part_is fits a e
                (tile_end o i c r side (length work) (length out)) t opens d;
          }

      -- it has none
      module _ (d : Prepared o model count p x work (Ok tt) q work') (decodes : (k : K) → o.decode (o.code k) ≡ Some k) where
        clean : first_fault (place_of (cut o (model p).shown c r side)) (cut_places o (model p).shown c r side) ≡ None
        clean = ends.clean o model count (place_of (cut o (model p).shown c r side)) (cut_places o (model p).shown c r side) (file o (tile o (model p).shown c r side)) p work out x q work' part_is fits d

        codes_are : work' ≡ put None (λ k. code_at o (place_of (cut o (model p).shown c r side) k)) (cut_places o (model p).shown c r side) work
        codes_are = ends.codes_are o model count (place_of (cut o (model p).shown c r side)) (cut_places o (model p).shown c r side) (file o (tile o (model p).shown c r side)) p work out x q work' part_is fits d

        -- each code is a pixel's
        pub known : Bounded o (model p).shown → (k : ℕ) → k < x.height * x.width → Known o z.maxval (o.decode (get_or work' k 0))
        known bounded k h =
            let i = (model p).shown in
            let n = cut_places o i c r side in
            let turn : x.height * x.width ≡ n = mul_comm x.height x.width ∙ part_is.many in
            let D : List ℕ → Type 0 = λ t. Known o z.maxval (o.decode (get_or t k 0)) in
            let E : ℕ → Type 0 = λ m. Known o m (o.decode (get_or (put None (λ j. code_at o (place_of (cut o i c r side) j)) n work) k 0)) in
            subst D (sym codes_are) (subst E (sym maxval)
            (codes.known o decodes i.maxval (place_of (cut o i c r side)) n work clean (squares.cut_dim o i c r side x cut_is bounded) k (omega arith)))

        -- the header and the square are written
        pub put_down : (deep : (k : K) → length (o.samples k) ≡ o.depth) (pad : K)
            → ((at : ℕ → ℕ → Place K) (W H : ℕ) (x y : ℤ) → taken o z.maxval at (grounded (ground_of None) W H x y) ≡ pixel pad)
            → length work' ≡ length work → (mark : ℕ) → mark ≡ o.mark → (out1 part : List ℕ) (end : ℕ)
            → out1 ≡ over (header mark side side z.maxval) out → end ≡ length (header mark side side z.maxval)
            → part ≡ over (square_bytes o z.maxval pad side x.width x.height work') (take (length out1 - end) (drop end out1))
            → Tiled o model count p c r side work out (Ok (head + side * side * wide)) q work' (put_mid end (length out1 - end) out1 part)
        put_down deep pad ground same mark em out1 part end e1 el e2 =
            let i = (model p).shown in
            let n = cut_places o i c r side in
            let b = bytes_are in
            let f = fits in
            let shows : (at : ℕ → ℕ → Place K) (W H : ℕ) (x y : ℤ) → taken o i.maxval at (grounded (ground_of None) W H x y) ≡ pixel pad =
            λ at W H x y. ap (λ (m : ℕ). taken o m at (grounded (ground_of None) W H x y)) (sym maxval) ∙ ground at W H x y in
            let shown : (k : ℕ) → k < n → get_or work' k 0 ≡ code_at o (place_of (cut o i c r side) k) =
            λ k h. ap (λ t. get_or t k 0) codes_are ∙ codes.code_at_lem (λ j. code_at o (place_of (cut o i c r side) j)) n work k h in
            let l : n ≤ length work' = omega arith in
            record {
              part = ends.done_wrote o model count (place_of (cut o i c r side)) n (file o (tile o i c r side)) p work out x q work' part_is fits d
                  (tile_end o i c r side (length work) (length out)) (head + side * side * wide) _ opens
                  (bytes_are ∙ sym (squares.file_long o i c r side pad shows decodes work' clean shown l deep))
                  (squares.file-written o i c r side pad shows decodes work' clean shown l deep out out1 part mark x.width x.height z.maxval end em cut_is.width cut_is.height maxval e1 el e2 (omega arith));
            }
