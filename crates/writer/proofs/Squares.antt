-- The raster of a tile: the rows of its visible part, padded.
use Rattle.std.proofs.Common.{◌≡◌, ℕ, zero, suc, ◌+◌, ◌-◌, ◌*◌, ◌/◌, ◌%◌, ◌<◌, ◌≤◌, min, true, false, ◌&&◌, ltb, leb, ◌⊎◌, List, ◌++◌, length, get_or, take, drop, ℤ, pos, ◌-ℤ◌, Some, None, sym, ap, ◌∙◌, inl, inr, add-zero, mul_comm, add-mul, add_comm, mul-zero, zero-add, zero-mul, arith, length-append, length-drop}
use mathlib.Core.Path.{fun_ext}
use native.Mathlib.Nat.{div-add-mod}
use lib.IntN.{+ℤ_idr}
use borrow.Rule.Slice.PartMut.{put_mid}
use Rattle.std.specs.List.{range_with_len, flat_map}
use Rattle.std.proofs.lemmas.List.{get_or-take, get_or-drop, length-take-le}
use Rattle.std.proofs.lemmas.Bool.{and_parts, and_from, and_left, and_right, cond-true, cond-false, lt-ltb, le-ltb, ltb-true, le-leb, lt-leb, leb-true, cases_lt}
use Rattle.std.proofs.lemmas.Nat.{div-mul-add, mod-mul-add, mod_below}
use Rattle.pixel.specs.Ops.{Ops}
use Rattle.picture.specs.declared.rect.Rect.{Rect}
use Rattle.picture.specs.Places.{Place, pixel, first_fault}
use Rattle.picture.specs.Images.{Image, Dim, Bounded}
use Rattle.picture.specs.Steps.{grounded, ground_of, embedded}
use Rattle.picture.specs.Compose.{taken}
use Rattle.picture.specs.Prepare.{code_at}
use Rattle.writer.specs.File.{place_of, place_bytes, pixel_bytes, pixel_width, reading, header, header_of, raster, file}
use Rattle.writer.specs.Layout.{repeated, code_bytes, row_bytes, rows_bytes, square_bytes}
use Rattle.writer.specs.Calls.{early, ending, over}
use Rattle.writer.specs.Tiles.{tiles, Cut, cut, tile, cut_places, tile_width, tile_end}
use Rattle.writer.proofs.Ends.{Part}
use Rattle.writer.proofs.Codes.{at_place, each_clean, code_bytes_lem}
use Rattle.writer.proofs.Joins.{by_place, joined_parts, joined_same, joined_shift, room, times_split, times_suc, length-pixel_bytes, length_parts, length-rows_bytes, square_split}
use Rattle.writer.proofs.Paste.{over_next}

-- a number below a product has a factor above 0
mul_zero_of : (a s k : ℕ) → k < a * s → 0 < s
mul_zero_of a s k h = elim (cases_lt 0 s) [
  | inl l ↦ l
  | inr l ↦ (let z : s ≡ 0 = omega arith in let y : a * s ≡ 0 = ap (λ n. a * n) z ∙ mul-zero a in absurd (omega arith))
]

split_at : (k s : ℕ) → k ≡ k / s * s + k % s
split_at k s = omega (arith, div-add-mod k s, mul_comm s (k / s))

-- rows of parts one behind another are parts one behind another
joined_rows : {A : Type 0} (f : ℕ → List A) (s a n : ℕ) → flat_map (λ j. flat_map f (range_with_len (j * s) s)) (range_with_len a n) ≡ flat_map f (range_with_len (a * s) (n * s))
joined_rows f s a zero = ap (λ k. flat_map f (range_with_len (a * s) k)) (sym (zero-mul s))
joined_rows f s a (suc n) =
    let z : (a + 1) * s ≡ a * s + s = omega (arith, times_suc a s, ap (λ k. k * s) (let e : suc a ≡ a + 1 = omega arith in e)) in
    let y : s + n * s ≡ suc n * s = omega (arith, times_suc n s) in
    ap (λ t. flat_map f (range_with_len (a * s) s) ++ t) (joined_rows f s (a + 1) n ∙ ap (λ k. flat_map f (range_with_len k (n * s))) z)
    ∙ sym (joined_parts f (a * s) s (n * s)) ∙ ap (λ k. flat_map f (range_with_len (a * s) k)) y

module _ {K S : Type 0} (o : Ops K S) (i : Image K) (c r side : ℕ) where
  -- the tile shows its visible part at the left and top
  tile_in : (u v : ℕ) → u < (cut o i c r side).width → v < (cut o i c r side).height → (tile o i c r side).at u v ≡ (cut o i c r side).at u v
  tile_in u v a b =
      let w = (cut o i c r side).width in
      let h = (cut o i c r side).height in
      let x : pos u -ℤ pos 0 ≡ pos u = +ℤ_idr (pos u) in
      let y : pos v -ℤ pos 0 ≡ pos v = +ℤ_idr (pos v) in
      let p : min u (w - 1) ≡ u = omega arith in
      let q : min v (h - 1) ≡ v = omega arith in
      ap (λ z. taken o i.maxval (cut o i c r side).at (embedded (ground_of None) w h z (pos v -ℤ pos 0))) x
      ∙ ap (λ z. taken o i.maxval (cut o i c r side).at (embedded (ground_of None) w h (pos u) z)) y
      ∙ ap (taken o i.maxval (cut o i c r side).at) (cond-true (ltb u w && ltb v h) _ _ (and_from (ltb u w) (ltb v h) (lt-ltb u w a) (lt-ltb v h b)))
      ∙ ap (λ z. (cut o i c r side).at z (min v (h - 1))) p ∙ ap ((cut o i c r side).at u) q

  -- and the ground beside it
  tile_out : (pad : K) → ((at : ℕ → ℕ → Place K) (W H : ℕ) (x y : ℤ) → taken o i.maxval at (grounded (ground_of None) W H x y) ≡ pixel pad)
      → (u v : ℕ) → ((cut o i c r side).width ≤ u) ⊎ ((cut o i c r side).height ≤ v) → (tile o i c r side).at u v ≡ pixel pad
  tile_out pad ground u v a =
      let w = (cut o i c r side).width in
      let h = (cut o i c r side).height in
      let x : pos u -ℤ pos 0 ≡ pos u = +ℤ_idr (pos u) in
      let y : pos v -ℤ pos 0 ≡ pos v = +ℤ_idr (pos v) in
      let no : ltb u w && ltb v h ≡ false = elim a [
        | inl l ↦ and_left (ltb u w) (ltb v h) (le-ltb u w l)
        | inr l ↦ and_right (ltb u w) (ltb v h) (le-ltb v h l)
      ] in
      ap (λ z. taken o i.maxval (cut o i c r side).at (embedded (ground_of None) w h z (pos v -ℤ pos 0))) x
      ∙ ap (λ z. taken o i.maxval (cut o i c r side).at (embedded (ground_of None) w h (pos u) z)) y
      ∙ ap (taken o i.maxval (cut o i c r side).at) (cond-false (ltb u w && ltb v h) _ _ no)
      ∙ ground (cut o i c r side).at w h (pos u) (pos v)

  -- column k of row j
  tile-place : (j k : ℕ) → k < side → place_of (tile o i c r side) (j * side + k) ≡ (tile o i c r side).at k j
  tile-place j k h =
      ap (λ x. (tile o i c r side).at x ((j * side + k) / side)) (mod-mul-add j side k h) ∙ ap ((tile o i c r side).at k) (div-mul-add j side k h)

  cut-place : (j k : ℕ) → k < (cut o i c r side).width → place_of (cut o i c r side) (j * (cut o i c r side).width + k) ≡ (cut o i c r side).at k j
  cut-place j k h =
      let w = (cut o i c r side).width in
      ap (λ x. (cut o i c r side).at x ((j * w + k) / w)) (mod-mul-add j w k h) ∙ ap ((cut o i c r side).at k) (div-mul-add j w k h)

  module _ (pad : K) (ground : (at : ℕ → ℕ → Place K) (W H : ℕ) (x y : ℤ) → taken o i.maxval at (grounded (ground_of None) W H x y) ≡ pixel pad) where
    -- the padding of n places from the place a on
    padded : (a n : ℕ) → ((k : ℕ) → k < n → place_of (tile o i c r side) (a + k) ≡ pixel pad)
        → repeated (pixel_bytes o i.maxval pad) n ≡ flat_map (λ k. place_bytes o i.maxval (place_of (tile o i c r side) k)) (range_with_len a n)
    padded a n h =
        let f : ℕ → List ℕ = λ k. place_bytes o i.maxval (place_of (tile o i c r side) k) in
        joined_same (λ k. pixel_bytes o i.maxval pad) (λ k. f (a + k)) 0 n (λ k p q. ap (place_bytes o i.maxval) (sym (h k (omega arith))))
        ∙ joined_shift f a 0 n ∙ ap (λ k. flat_map f (range_with_len k n)) (add-zero a)

    module _ (decodes : (p : K) → o.decode (o.code p) ≡ Some p) (codes : List ℕ) (clean : first_fault (place_of (cut o i c r side)) (cut_places o i c r side) ≡ None)
        (shown : (k : ℕ) → k < cut_places o i c r side → get_or codes k 0 ≡ code_at o (place_of (cut o i c r side) k)) (long : cut_places o i c r side ≤ length codes) where
      -- row j of the tile, above the padding
      row_bytes_lem : (j : ℕ) → j < (cut o i c r side).height
          → row_bytes o i.maxval pad side (take (cut o i c r side).width (drop (j * (cut o i c r side).width) codes))
          ≡ flat_map (λ k. place_bytes o i.maxval (place_of (tile o i c r side) k)) (range_with_len (j * side) side)
      row_bytes_lem j h =
          let m = i.maxval in
          let w = (cut o i c r side).width in
          let f : ℕ → List ℕ = λ k. place_bytes o m (place_of (tile o i c r side) k) in
          let row = take w (drop (j * w) codes) in
          let area-is : cut_places o i c r side ≡ (cut o i c r side).height * w = mul_comm w (cut o i c r side).height in
          let fit : j * w + w ≤ cut_places o i c r side = omega (arith, room j (cut o i c r side).height w h) in
          let len : length row ≡ w = length-take-le w (drop (j * w) codes) (omega (arith, length-drop (j * w) codes)) in
          let part : flat_map (code_bytes o m) row ≡ flat_map f (range_with_len (j * side) w) =
          sym (by_place (code_bytes o m) row) ∙ ap (λ n. flat_map (λ k. code_bytes o m (get_or row k 0)) (range_with_len 0 n)) len
          ∙ joined_same (λ k. code_bytes o m (get_or row k 0)) (λ k. f (j * side + k)) 0 w (λ k a b.
          let l : k < w = omega arith in
          let s : k < side = omega arith in
          ap (code_bytes o m) (get_or-take w (drop (j * w) codes) k 0 l ∙ get_or-drop (j * w) codes k 0 ∙ shown (j * w + k) (omega arith))
          ∙ code_bytes_lem o decodes m (place_of (cut o i c r side) (j * w + k)) (each_clean (place_of (cut o i c r side)) (cut_places o i c r side) clean (j * w + k) (omega arith))
          ∙ ap (place_bytes o m) (cut-place j k l ∙ sym (tile_in k j l h) ∙ sym (tile-place j k s)))
          ∙ joined_shift f (j * side) 0 w ∙ ap (λ k. flat_map f (range_with_len k w)) (add-zero (j * side)) in
          let pads : repeated (pixel_bytes o m pad) (side - w) ≡ flat_map f (range_with_len (j * side + w) (side - w)) =
          padded (j * side + w) (side - w) (λ k b.
          let e : j * side + w + k ≡ j * side + (w + k) = omega arith in
          ap (place_of (tile o i c r side)) e ∙ tile-place j (w + k) (omega arith) ∙ tile_out pad ground (w + k) j (inl (omega arith))) in
          let all : w + (side - w) ≡ side = omega arith in
          ap (λ n. flat_map (code_bytes o m) row ++ repeated (pixel_bytes o m pad) (side - n)) len
          ∙ ap (λ t. t ++ repeated (pixel_bytes o m pad) (side - w)) part ∙ ap (λ t. flat_map f (range_with_len (j * side) w) ++ t) pads
          ∙ sym (joined_parts f (j * side) w (side - w)) ∙ ap (λ n. flat_map f (range_with_len (j * side) n)) all

      -- the square is the raster of the tile
      pub square-reading : square_bytes o i.maxval pad side (cut o i c r side).width (cut o i c r side).height codes ≡ reading o (tile o i c r side) 0 (side * side)
      unfolding reading
      square-reading =
          let m = i.maxval in
          let w = (cut o i c r side).width in
          let h = (cut o i c r side).height in
          let f : ℕ → List ℕ = λ k. place_bytes o m (place_of (tile o i c r side) k) in
          let high : h ≤ side = omega arith in
          let rows : rows_bytes o m pad side w codes h ≡ flat_map f (range_with_len 0 (h * side)) =
          joined_same (λ j. row_bytes o m pad side (take w (drop (j * w) codes))) (λ j. flat_map f (range_with_len (j * side) side)) 0 h (λ j a b. row_bytes_lem j (omega arith))
          ∙ joined_rows f side 0 h ∙ ap (λ k. flat_map f (range_with_len k (h * side))) (zero-mul side) in
          let below : repeated (pixel_bytes o m pad) ((side - h) * side) ≡ flat_map f (range_with_len (0 + h * side) ((side - h) * side)) =
          padded (h * side) ((side - h) * side) (λ k b.
          let some : 0 < side = omega (arith, mul_zero_of (side - h) side k b) in
          let e : h * side + k ≡ (h + k / side) * side + k % side = omega (arith, add-mul h (k / side) side, split_at k side) in
          ap (place_of (tile o i c r side)) e ∙ tile-place (h + k / side) (k % side) (mod_below k side some) ∙ tile_out pad ground (k % side) (h + k / side) (inr (omega arith)))
          ∙ ap (λ k. flat_map f (range_with_len k ((side - h) * side))) (sym (zero-add (h * side))) in
          ap (λ t. t ++ repeated (pixel_bytes o m pad) ((side - h) * side)) rows ∙ ap (λ t. flat_map f (range_with_len 0 (h * side)) ++ t) below
          ∙ sym (joined_parts f 0 (h * side) ((side - h) * side)) ∙ ap (λ n. flat_map f (range_with_len 0 n)) (times_split h side side high)

      module _ (deep : (p : K) → length (o.samples p) ≡ o.depth) where
        square_long : length (square_bytes o i.maxval pad side (cut o i c r side).width (cut o i c r side).height codes) ≡ side * side * pixel_width o i.maxval
        square_long =
            let m = i.maxval in
            let w = (cut o i c r side).width in
            let h = (cut o i c r side).height in
            let wide : w ≤ side = omega arith in
            let high : h ≤ side = omega arith in
            length-append (rows_bytes o m pad side w codes h) (repeated (pixel_bytes o m pad) ((side - h) * side))
            ∙ omega (arith, length-rows_bytes o deep m pad side w codes h wide, length_parts (λ k. pixel_bytes o m pad) (pixel_width o m) 0 ((side - h) * side) (λ k. length-pixel_bytes o deep m pad), square_split h side (pixel_width o m) high)

        pub file_long : length (file o (tile o i c r side)) ≡ tile_width o i c r side
        file_long = length-append (header_of o (tile o i c r side)) (raster o (tile o i c r side)) ∙ ap (λ n. length (header_of o (tile o i c r side)) + n) (ap length (sym square-reading) ∙ square_long)

        -- the header and then the square are the tile's file
        pub file-written : (out out1 part : List ℕ) (mark w h m head : ℕ) → mark ≡ o.mark → w ≡ (cut o i c r side).width → h ≡ (cut o i c r side).height → m ≡ i.maxval
            → out1 ≡ over (header mark side side m) out → head ≡ length (header mark side side m) → part ≡ over (square_bytes o m pad side w h codes) (take (length out1 - head) (drop head out1))
            → tile_width o i c r side ≤ length out → put_mid head (length out1 - head) out1 part ≡ over (file o (tile o i c r side)) out
        file-written out out1 part mark w h m head ek ew eh em e1 el e2 fit =
            let a : header mark side side m ≡ header_of o (tile o i c r side) = ap (λ x. header x side side m) ek ∙ ap (header o.mark side side) em in
            let b : square_bytes o m pad side w h codes ≡ raster o (tile o i c r side) =
            ap (λ x. square_bytes o x pad side w h codes) em ∙ ap (λ x. square_bytes o i.maxval pad side x h codes) ew
            ∙ ap (λ x. square_bytes o i.maxval pad side (cut o i c r side).width x codes) eh ∙ square-reading in
            let long = ap length (sym square-reading) ∙ square_long in
            over_next out out1 part (header_of o (tile o i c r side)) (raster o (tile o i c r side)) head (e1 ∙ ap (λ t. over t out) a) (el ∙ ap length a) (omega (arith, ap length a))
            (e2 ∙ ap (λ t. over t (take (length out1 - head) (drop head out1))) b)

  -- the rectangle of the visible part
  module _ (x : Rect) (is : Cut i.width i.height c r side x) where
    in_both : (ltb (c * side) i.width ≡ true) × (ltb (r * side) i.height ≡ true)
    in_both = and_parts (ltb (c * side) i.width) (ltb (r * side) i.height) (and_parts (leb 1 side && leb side 256) (ltb (c * side) i.width && ltb (r * side) i.height) is.there).1

    left_in : c * side < i.width
    left_in = ltb-true (c * side) i.width in_both.0

    top_in : r * side < i.height
    top_in = ltb-true (r * side) i.height in_both.1

    pub small : side ≤ 256
    small = leb-true side 256 (and_parts (leb 1 side) (leb side 256) (and_parts (leb 1 side && leb side 256) (ltb (c * side) i.width && ltb (r * side) i.height) is.there).0).1

    pub cut-part : Part i x (place_of (cut o i c r side)) (cut_places o i c r side)
    cut-part =
        let a = left_in in
        let b = top_in in
        record {
          across = omega (arith, is.left, is.width);
          down = omega (arith, is.top, is.height);
          many = ap (λ n. n * x.height) is.width ∙ ap (λ n. (cut o i c r side).width * n) is.height;
          same = fun_ext (λ k.
              let w = (cut o i c r side).width in
              let u : x.left + k % x.width ≡ k % w + c * side = ap (λ n. n + k % x.width) is.left ∙ ap (λ n. c * side + k % n) is.width ∙ add_comm (c * side) (k % w) in
              let v : x.top + k / x.width ≡ k / w + r * side = ap (λ n. n + k / x.width) is.top ∙ ap (λ n. r * side + k / n) is.width ∙ add_comm (r * side) (k / w) in
              ap (λ n. i.at n (x.top + k / x.width)) u ∙ ap (i.at (k % w + c * side)) v);
        }

    pub cut_dim : Bounded o i → (k : ℕ) → k < cut_places o i c r side → Dim o i.maxval (place_of (cut o i c r side) k)
    cut_dim bound k h =
        let w = (cut o i c r side).width in
        let a = left_in in
        let b = top_in in
        let p = at_place (cut o i c r side) k h in
        bound (k % w + c * side) (k / w + r * side) (omega (arith, p.0)) (omega (arith, p.1))

  module _ (l m : ℕ) where
    pub end_none : tiles i.width i.height c r side ≡ false → tile_end o i c r side l m ≡ early 14
    unfolding tile_end
    end_none h = ap (λ e. ending e (first_fault (place_of (cut o i c r side)) (cut_places o i c r side))) (cond-false _ _ _ h)

    pub end_short : tiles i.width i.height c r side ≡ true → (l < cut_places o i c r side) ⊎ (m < tile_width o i c r side) → tile_end o i c r side l m ≡ early 11
    unfolding tile_end
    end_short h s =
        let no : leb (cut_places o i c r side) l && leb (tile_width o i c r side) m ≡ false = elim s [
          | inl p ↦ and_left _ (leb (tile_width o i c r side) m) (lt-leb (cut_places o i c r side) l p)
          | inr p ↦ and_right (leb (cut_places o i c r side) l) _ (lt-leb (tile_width o i c r side) m p)
        ] in
        ap (λ e. ending e (first_fault (place_of (cut o i c r side)) (cut_places o i c r side))) (cond-true _ _ _ h ∙ cond-false _ _ _ no)

    pub end_open : tiles i.width i.height c r side ≡ true → cut_places o i c r side ≤ l → tile_width o i c r side ≤ m
        → tile_end o i c r side l m ≡ ending None (first_fault (place_of (cut o i c r side)) (cut_places o i c r side))
    unfolding tile_end
    end_open h p q =
        ap (λ e. ending e (first_fault (place_of (cut o i c r side)) (cut_places o i c r side)))
        (cond-true _ _ _ h ∙ cond-true _ _ _ (and_from _ _ (le-leb (cut_places o i c r side) l p) (le-leb (tile_width o i c r side) m q)))
