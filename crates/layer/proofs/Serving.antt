-- A prepare of a layer, by pieces or by rows.
use Rattle.std.proofs.Common.{◌≡◌, ℕ, zero, suc, ◌+◌, ◌-◌, ◌*◌, ◌/◌, ◌%◌, ◌^◌, ◌<◌, ◌≤◌, List, [], ◌++◌, map, length, get_or, drop, replicate, Some, None, Option, Ok, Err, Result, true, is_ok, refl, sym, ap, ◌∙◌, mul_comm, length-append, length-drop, arith}
use Rattle.std.proofs.lemmas.Nat.{div-add-mod', div_below, mod_below}
use Rattle.std.proofs.lemmas.List.{drop_at, get_or_append_left}
use Rattle.std.specs.List.{range_with_len}
use Rattle.pixel.specs.Ops.{Ops}
use Rattle.picture.specs.declared.fault.Fault.{Fault}
use Rattle.picture.specs.declared.rect.Rect.{Rect}
use Rattle.picture.specs.Images.{Image}
use Rattle.picture.specs.Places.{first_fault}
use Rattle.picture.specs.Prepare.{Shown, answer, area, code_at, filled, holed, nth, put}
use Rattle.picture.specs.Refusals.{Outcome, done, refused}
use Rattle.picture.proofs.Faults.{shown_clean}
use Rattle.picture.proofs.Serving.{answer_is, filled_is, whole}
use Rattle.layer.specs.Aims.{spot}
use Rattle.layer.specs.Laid.{Shows}
use Rattle.layer.specs.Layers.{raised}

put_rest : (x : Option Fault) (f : ℕ → ℕ) (n : ℕ) (t₀ t₁ : List ℕ) → drop n t₁ ≡ drop n t₀ → put x f n t₁ ≡ put x f n t₀
put_rest None f n t₀ t₁ e = ap (λ d. map f (range_with_len 0 n) ++ d) e
put_rest (Some x) f n t₀ t₁ e = ap (λ d. replicate n 0 ++ d) e

-- other entries in place of the first n
pub same_rest : (t s : List ℕ) (n a : ℕ) → n ≡ a → n ≤ length t → length s ≡ n → (length (s ++ drop n t) ≡ length t) × (drop a (s ++ drop n t) ≡ drop a t)
same_rest t s n a e h l = (omega (arith, length-append s (drop n t), length-drop n t), ap (λ z. drop z (s ++ drop n t)) (sym e) ∙ drop_at s (drop n t) n l ∙ ap (λ z. drop z t) e)

module _ {K S : Type 0} (o : Ops K S) (b : Image K) (r : Rect) where
  -- a rectangle that is shown is shown in reading order
  shown_whole : (t₀ t₁ : List ℕ) → Shows o b r r t₀ t₁ → Shown o (nth b r) (area r) t₁
  shown_whole t₀ t₁ l k lt =
      let w : 0 < r.width = r.wide in
      let c = mod_below k r.width w in
      let d = div_below k r.width r.height w (omega (arith, mul_comm r.width r.height)) in
      let ex : r.left + k % r.width - r.left ≡ k % r.width = omega arith in
      let ey : r.top + k / r.width - r.top ≡ k / r.width = omega arith in
      let e : spot r (r.left + k % r.width) (r.top + k / r.width) ≡ k = ap (λ z. z * r.width + (r.left + k % r.width - r.left)) ey ∙ ap (λ z. k / r.width * r.width + z) ex ∙ div-add-mod' k r.width in
      l.inside (r.left + k % r.width) (r.top + k / r.width) (record { left = omega arith; top = omega arith; right = omega arith; bottom = omega arith }) ∙ ap (λ z. Some (get_or t₁ z 0)) e

  -- all pieces were drawn in the first n entries
  pub served_pieces : (u t s : List ℕ) (n : ℕ) → r.left + r.width ≤ b.width → r.top + r.height ≤ b.height → n ≡ area r → n ≤ length t → length s ≡ n → Shows o b r r u s
      → (done ≡ answer b r (length t)) × (s ++ drop n t ≡ filled o b r t)
  served_pieces u t s n x y e len l h =
      let room : area r ≤ length t = omega arith in
      let same = same_rest t s n (area r) e len l in
      let w : Shown o (nth b r) (area r) (s ++ drop n t) = λ k lt. shown_whole u s h k lt ∙ ap Some (sym (get_or_append_left s (drop n t) 0 k (omega arith))) in (
        sym (answer_is b r (length t) x y room ∙ ap holed (shown_clean o (nth b r) (area r) s (shown_whole u s h))),
        whole o (nth b r) (area r) t (s ++ drop n t) (omega (arith, same.0)) w same.1 ∙ sym (filled_is o b r t x y room),
      )

  -- by rows, after a piece met a hole
  pub served_rows : (a : Image K) (x : Outcome) (t₀ t₁ t₂ : List ℕ) → r.left + r.width ≤ b.width → r.top + r.height ≤ b.height → area r ≤ length t₀ → length t₁ ≡ length t₀ → b ≡ a → drop (area r) t₁ ≡ drop (area r) t₀
      → x ≡ answer a r (length t₁) → t₂ ≡ filled o a r t₁ → (x ≡ answer b r (length t₀)) × (t₂ ≡ filled o b r t₀)
  served_rows a x t₀ t₁ t₂ w h z len e d p q = (
    p ∙ ap (λ i. answer i r (length t₁)) (sym e) ∙ ap (answer b r) len,
    q ∙ ap (λ i. filled o i r t₁) (sym e) ∙ filled_is o b r t₁ w h (omega arith) ∙ put_rest (first_fault (nth b r) (area r)) (λ k. code_at o (nth b r k)) (area r) t₀ t₁ d ∙ sym (filled_is o b r t₀ w h z),
  )

-- a hole is told by 12 alone
pub holed_not : (x : Option Fault) (n : ℕ) → n < 12 → holed x ≡ refused n [] → ⊥
holed_not None n l h = let z : ◌≡◌ {A = ℕ} 0 1 = cc in omega arith
holed_not (Some f) n l h = let z : 12 ≡ n = cc in omega arith

raised_grows : (n c : ℕ) → c < 2 ^ 64 → (c ≤ raised n c) × (raised n c < 2 ^ 64)
raised_grows zero c h = (omega arith, h)
raised_grows (suc n) c h = let r = raised_grows n c h in let a : c ≤ raised n c = r.0 in let b : raised n c < 2 ^ 64 = r.1 in (omega arith, omega arith)

pub never_falls : (n c d : ℕ) → d ≡ raised n c → c < 2 ^ 64 → c ≤ d
never_falls n c d e h = omega (arith, (raised_grows n c h).0)

pub ok_of : (r : Result Unit Fault) → is_ok r ≡ true → r ≡ Ok tt
ok_of (Ok u) e = refl
ok_of (Err f) e = cc
