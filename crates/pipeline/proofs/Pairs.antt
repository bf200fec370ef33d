-- Sources that agree in the region of a rectangle give it the same answer.
use Rattle.std.proofs.Common.{◌≡◌, ℕ, ◌+◌, ◌/◌, ◌%◌, ◌<◌, ◌≤◌, Bool, true, false, cond, ◌&&◌, leb, List, [], ◌∷◌, map, length, take, drop, replicate, Some, None, Option, Result, sym, refl, ap, ◌∙◌, zero-add, arith}
use Rattle.std.specs.List.{range_with_len}
use Rattle.std.proofs.lemmas.List.{take_at, length-replicate}
use Rattle.std.proofs.lemmas.Bool.{leb-true, and_parts, cond-true, cond-false}
use Rattle.std.proofs.lemmas.List.FromFn.{fill_by_all, get_or-map-range_with_len, length-map-range_with_len}
use Rattle.pixel.specs.Ops.{Ops}
use Rattle.picture.specs.declared.fault.Fault.{Fault}
use Rattle.picture.specs.declared.fault.Refusal.{Refusal}
use Rattle.picture.specs.declared.rect.Rect.{Rect}
use Rattle.picture.specs.declared.step.Step.{Step}
use Rattle.picture.specs.Refusals.{refused, outcome}
use Rattle.picture.specs.Places.{first_fault}
use Rattle.picture.specs.Images.{Image, Model}
use Rattle.picture.specs.Steps.{width_of, height_of}
use Rattle.picture.specs.Compose.{composed, Composed}
use Rattle.picture.specs.Region.{Alike}
use Rattle.picture.specs.Prepare.{area, inside, nth, holed, answer, put, code_at, filled, Prepared}
use Rattle.picture.proofs.Faults.{first_same}
use Rattle.picture.proofs.Serving.{filled_is}
use Rattle.layer.proofs.Deciding.{region_decides}
use Rattle.writer.specs.Log.{whole}
use Rattle.writer.proofs.Codes.{codes_front}
use Rattle.pipeline.specs.Answer.{Fits}
use Rattle.pipeline.specs.Laws.{Same, Agree}
use Rattle.writer.proofs.Firsts.{place_in}
use Rattle.pipeline.proofs.Firsts.{shows}

-- the first n entries behind a prepare, whatever the buffer held
fronts : (x : Option Fault) (f g : ℕ → ℕ) (n : ℕ) (a b : List ℕ) → ((k : ℕ) → k < n → f k ≡ g k) → take n (put x f n a) ≡ take n (put x g n b)
fronts None f g n a b h =
    codes_front f n a
    ∙ fill_by_all g (map f (range_with_len 0 n)) n 0 (length-map-range_with_len f 0 n) (λ k l. get_or-map-range_with_len f 0 n k k 0 l (zero-add k) ∙ h k l)
    ∙ sym (codes_front g n b)
fronts (Some e) f g n a b h = take_at (replicate n 0) (drop n a) n (length-replicate n 0) ∙ sym (take_at (replicate n 0) (drop n b) n (length-replicate n 0))

module _ {K S : Type 0} (o : Ops K S) where
  -- the sides of a composed picture come from those of its source
  same_sides : (ss : List Step) (a b : Image K) → a.width ≡ b.width → a.height ≡ b.height → ((composed o ss a).width ≡ (composed o ss b).width) × ((composed o ss a).height ≡ (composed o ss b).height)
  same_sides [] a b w h = (w, h)
  same_sides (s ∷ ss) a b w h =
      let r = same_sides ss a b w h in
      let W = (composed o ss b).width in
      let H = (composed o ss a).height in
      (ap (λ z. width_of s z H) r.0 ∙ ap (λ z. width_of s W z) r.1, ap (λ z. height_of s z H) r.0 ∙ ap (λ z. height_of s W z) r.1)

  module _ (ss : List Step) (r : Rect) (a b : Image K) (alike : Alike o ss r a b) where
    wide : (composed o ss a).width ≡ (composed o ss b).width
    wide = (same_sides ss a b alike.width alike.height).0

    high : (composed o ss a).height ≡ (composed o ss b).height
    high = (same_sides ss a b alike.width alike.height).1

    same_inside : inside (composed o ss a) r ≡ inside (composed o ss b) r
    same_inside =
        ap (λ w. leb (r.left + r.width) w && leb (r.top + r.height) (composed o ss a).height) wide
        ∙ ap (λ h. leb (r.left + r.width) (composed o ss b).width && leb (r.top + r.height) h) high

    module _ (across : r.left + r.width ≤ (composed o ss a).width) (down : r.top + r.height ≤ (composed o ss a).height) where
      same_places : (k : ℕ) → k < area r → nth (composed o ss a) r k ≡ nth (composed o ss b) r k
      same_places k l =
          let u = r.left + k % r.width in
          let v = r.top + k / r.width in
          let w = place_in (composed o ss a) r k l in
          let x = w.right in
          let y = w.bottom in
          region_decides o ss u v a b (record { width = alike.width; height = alike.height; maxval = alike.maxval; places = alike.places u v w (omega arith) (omega arith) })

      same_first : first_fault (nth (composed o ss a) r) (area r) ≡ first_fault (nth (composed o ss b) r) (area r)
      same_first = first_same (nth (composed o ss a) r) (nth (composed o ss b) r) (area r) same_places

    same_answer : (n : ℕ) (x : Bool) → inside (composed o ss a) r ≡ x → answer (composed o ss a) r n ≡ answer (composed o ss b) r n
    same_answer n false e = cond-false (inside (composed o ss a) r) _ _ e ∙ sym (cond-false (inside (composed o ss b) r) _ _ (sym same_inside ∙ e))
    same_answer n true e =
        let p = and_parts _ _ e in
        cond-true (inside (composed o ss a) r) _ _ e
        ∙ ap (λ z. cond (leb (area r) n) (holed z) (refused 11 [])) (same_first (leb-true _ _ p.0) (leb-true _ _ p.1))
        ∙ sym (cond-true (inside (composed o ss b) r) _ _ (sym same_inside ∙ e))

    same_entries : (x y : List ℕ) → length x ≡ length y → Fits (composed o ss a) r x → take (area r) (filled o (composed o ss a) r x) ≡ take (area r) (filled o (composed o ss b) r y)
    same_entries x y e f =
        let i = composed o ss a in
        let j = composed o ss b in
        let c = f.across in
        let d = f.down in
        let m = f.room in
        let w = wide in
        let h = high in
        ap (take (area r)) (filled_is o i r x c d m)
        ∙ fronts (first_fault (nth i r) (area r)) (λ k. code_at o (nth i r k)) (λ k. code_at o (nth j r k)) (area r) x y (λ k l. ap (code_at o) (same_places c d k l))
        ∙ ap (λ z. take (area r) (put z (λ k. code_at o (nth j r k)) (area r) y)) (same_first c d)
        ∙ ap (take (area r)) (sym (filled_is o j r y (omega arith) (omega arith) (omega arith)))

    -- the answers to two prepares
    same : (x y x' y' : List ℕ) (s t : Result Unit Refusal) → length x ≡ length y → outcome s ≡ answer (composed o ss a) r (length x) → outcome t ≡ answer (composed o ss b) r (length y)
        → x' ≡ filled o (composed o ss a) r x → y' ≡ filled o (composed o ss b) r y → Same (composed o ss a) r x s t x' y'
    same x y x' y' s t e p q v w = record {
      outcomes = p ∙ same_answer (length x) (inside (composed o ss a) r) refl ∙ ap (answer (composed o ss b) r) e ∙ sym q;
      entries = λ f. ap (take (area r)) v ∙ same_entries x y e f ∙ sym (ap (take (area r)) w);
    }

module _ {P Q K S : Type 0} (o : Ops K S) (model : P → Model K) (count : P → ℕ) (bare : P → Type 0) (model' : Q → Model K) (count' : Q → ℕ) (bare' : Q → Type 0)
    (law : (p : P) → Composed o (model p)) (law' : (q : Q) → Composed o (model' q)) where
  pub agree : (p p' : P) (q q' : Q) (r : Rect) (a b a' b' : List ℕ) (s t : Result Unit Refusal)
      → Prepared o model count p r a s p' a' → Prepared o model' count' q r b t q' b' → Agree o model count bare model' count' bare' p q r a b s t a' b'
  agree p p' q q' r a b a' b' s t d e x y l m steps alike long =
      let i : (model p).shown ≡ whole o model count bare x = shows o model count bare law x p l in
      let j : (model' q).shown ≡ composed o (model x).steps (model' y).source = shows o model' count' bare' law' y q m ∙ ap (λ z. composed o z (model' y).source) (sym steps) in
      same o (model x).steps r (model x).source (model' y).source alike a b a' b' s t long
      (d.answers ∙ ap (λ z. answer z r (length a)) i) (e.answers ∙ ap (λ z. answer z r (length b)) j)
      (d.fills ∙ ap (λ z. filled o z r a) i) (e.fills ∙ ap (λ z. filled o z r b) j)
