-- What a prepare below says of a region that lies inside and has room.
use Rattle.std.proofs.Common.{◌≡◌, ℕ, ◌<◌, ◌≤◌, true, List, ◌++◌, map, length, get_or, drop, is_some, Some, None, Err, Option, sym, refl, ap, ◌∙◌, arith}
use Rattle.std.specs.List.{range_with_len}
use Rattle.std.proofs.lemmas.List.{get_or_append_left}
use Rattle.std.proofs.lemmas.List.FromFn.{get_or-map-range_with_len, length-map-range_with_len}
use Rattle.pixel.specs.Ops.{Ops}
use Rattle.picture.specs.declared.fault.Fault.{Fault}
use Rattle.picture.specs.declared.rect.Rect.{Rect}
use Rattle.picture.specs.Refusals.{Outcome, done}
use Rattle.picture.specs.Places.{Place, pixel, hole, fault_of, first_fault}
use Rattle.picture.specs.Images.{Image}
use Rattle.picture.specs.Compose.{pixel_or}
use Rattle.picture.specs.Prepare.{answer, area, code_at, coded, filled, first_in, holed, nth, put, Shown}
use Rattle.picture.proofs.Faults.{fault_of_err}
use Rattle.picture.proofs.Serving.{answer_is, filled_is}
use Rattle.layer.specs.Aims.{Inside}
use Rattle.layer.specs.Layers.{located}
use Rattle.layer.specs.Sums.{or_black}
use Rattle.layer.proofs.Holes.{none_each}

done_none : (x : Option Fault) → done ≡ holed x → x ≡ None
done_none None e = refl
done_none (Some f) e = cc

module _ {K S : Type 0} (o : Ops K S) (i : Image K) (r : Rect) where
  pub asked_answer : (n : ℕ) (x : Outcome) → Inside r i.width i.height → area r ≤ n → x ≡ answer i r n → x ≡ holed (first_fault (nth i r) (area r))
  asked_answer n x at room h = h ∙ answer_is i r n at.across at.down room

  pub asked_ok : (n : ℕ) → Inside r i.width i.height → area r ≤ n → done ≡ answer i r n → first_fault (nth i r) (area r) ≡ None
  asked_ok n at room h = done_none _ (asked_answer n done at room h)

  coded_clean : (p : Place K) → fault_of p ≡ None → coded o p ≡ Some (code_at o p)
  coded_clean (pixel k) e = refl
  coded_clean (hole f) e = cc

  pub asked_shown : (before after : List ℕ) → Inside r i.width i.height → area r ≤ length before → first_fault (nth i r) (area r) ≡ None → after ≡ filled o i r before → Shown o (nth i r) (area r) after
  asked_shown before after at room none h k lt =
      let f : ℕ → ℕ = λ k. code_at o (nth i r k) in
      let l : k < length (map f (range_with_len 0 (area r))) = omega (arith, length-map-range_with_len f 0 (area r)) in
      let w : after ≡ map f (range_with_len 0 (area r)) ++ drop (area r) before = h ∙ filled_is o i r before at.across at.down room ∙ ap (λ x. put x f (area r) before) none in
      coded_clean (nth i r k) (none_each (nth i r) (area r) none k lt)
      ∙ ap Some (sym (ap (λ b. get_or b k 0) w ∙ get_or_append_left (map f (range_with_len 0 (area r))) (drop (area r) before) 0 k l ∙ get_or-map-range_with_len f 0 (area r) k k 0 lt (omega arith)))

module _ {K S : Type 0} (o : Ops K S) where
  -- a code that is shown reads back as the pixel
  pub reads_back : ((p : K) → o.decode (o.code p) ≡ Some p) → (p : Place K) (c : ℕ) → coded o p ≡ Some c → o.decode c ≡ Some (pixel_or o.black p)
  reads_back d (pixel k) c e = let q : o.code k ≡ c = cc in ap o.decode (sym q) ∙ d k
  reads_back d (hole f) c e = cc

  pub reads_some : ((p : K) → o.decode (o.code p) ≡ Some p) → (p : Place K) (c : ℕ) → coded o p ≡ Some c → is_some (o.decode c) ≡ true
  reads_some d p c e = ap is_some (reads_back d p c e)

  pub reads_pixel : ((p : K) → o.decode (o.code p) ≡ Some p) → (p : Place K) (c : ℕ) → coded o p ≡ Some c → or_black o.black (o.decode c) ≡ pixel_or o.black p
  reads_pixel d p c e = ap (or_black o.black) (reads_back d p c e)

  -- the hole of a region of one place
  pub single_hole : (i : Image K) (r : Rect) (f : Fault) (k : ℕ) → area r ≡ 1 → k < area r → Err f ≡ first_in (nth i r) (area r) → Err f ≡ located o (nth i r k)
  single_hole i r f k one h e =
      let z : 0 ≡ k = omega arith in
      let q : first_fault (nth i r) 1 ≡ Some f = ap (first_fault (nth i r)) (sym one) ∙ fault_of_err (first_fault (nth i r) (area r)) f e in
      fault_located (nth i r 0) f q ∙ ap (λ m. located o (nth i r m)) z
    where
      fault_located : (p : Place K) (f : Fault) → fault_of p ≡ Some f → Err f ≡ located o p
      fault_located (pixel k) f e = cc
      fault_located (hole g) f e = let q : f ≡ g = cc in ap Err q
