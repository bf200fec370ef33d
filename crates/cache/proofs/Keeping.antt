-- The slots stay right: a tile moves to the front, the spare slot is written, a tile is listed.
use Rattle.std.proofs.Common.{◌≡◌, ℕ, zero, suc, ◌+◌, ◌*◌, ◌/◌, ◌<◌, ◌≤◌, min, cond, ltb, ◌⊎◌, List, length, get_or, set, Some, sym, refl, ap, ◌∙◌, subst, inl, inr, ⊎_elim, add-one, arith}
use borrow.Rule.Slice.PartMut.{put_mid}
use Rattle.cache.proofs.Parts.{outside, within, length_mid}
use Rattle.std.proofs.lemmas.List.{get_or-set_same, get_or-set_other, length-set}
use Rattle.std.proofs.lemmas.List.Edits.{get_or-remove_below, get_or-remove_above, length-remove}
use Rattle.std.proofs.lemmas.Bool.{cond-true, cond-false, cases_lt, cases_eq, lt-ltb, le-ltb}
use Rattle.std.proofs.lemmas.Nat.{mul-le, mul-add-lt, div-mul-add, mod-mul-add}
use Rattle.pixel.specs.Ops.{Ops}
use Rattle.picture.specs.declared.rect.Rect.{Rect}
use Rattle.picture.specs.Images.{Image}
use Rattle.picture.specs.Prepare.{area, nth, coded, Shown}
use Rattle.cache.specs.declared.held.Held.{Held}
use Rattle.cache.specs.declared.shape.TileShape.{TileShape}
use Rattle.cache.specs.declared.tile.Tile.{Tile}
use Rattle.cache.specs.declared.tiles.Tiles.{Tiles}
use Rattle.cache.specs.Machine.{Once}
use Rattle.cache.specs.Order.{none, slot_at, promoted, listed}
use Rattle.cache.specs.Grid.{Covers, tile_width, tile_height, tile_place}
use Rattle.cache.specs.Slots.{base, again, entered, admitted, holding, Good, Ready}

-- where an element was before the i-th went to the front
abbrev from : ℕ → ℕ → ℕ
from i zero = i
from i (suc k) = cond (ltb k i) k (suc k)

from_low : (i k : ℕ) → k < i → from i (suc k) ≡ k
from_low i k h = cond-true (ltb k i) k (suc k) (lt-ltb k i h)

from_high : (i k : ℕ) → i ≤ k → from i (suc k) ≡ suc k
from_high i k h = cond-false (ltb k i) k (suc k) (le-ltb k i h)

from_below : (n i j : ℕ) → i < n → j < n → from i j < n
from_below n i zero a b = a
from_below n i (suc k) a b = ⊎_elim (λ l. omega (arith, from_low i k l)) (λ g. omega (arith, from_high i k g)) (cases_lt k i)

from_inj : (i j k : ℕ) → from i j ≡ from i k → j ≡ k
from_inj i zero zero e = refl
from_inj i zero (suc k) e = absurd (⊎_elim (λ l. omega (arith, from_low i k l)) (λ g. omega (arith, from_high i k g)) (cases_lt k i))
from_inj i (suc j) zero e = absurd (⊎_elim (λ l. omega (arith, from_low i j l)) (λ g. omega (arith, from_high i j g)) (cases_lt j i))
from_inj i (suc j) (suc k) e =
    ⊎_elim
    (λ (l : j < i). ⊎_elim (λ (m : k < i). omega (arith, from_low i j l, from_low i k m)) (λ (m : i ≤ k). omega (arith, from_low i j l, from_high i k m)) (cases_lt k i))
    (λ (l : i ≤ j). ⊎_elim (λ (m : k < i). omega (arith, from_high i j l, from_low i k m)) (λ (m : i ≤ k). omega (arith, from_high i j l, from_high i k m)) (cases_lt k i))
    (cases_lt j i)

get_or-promoted : (hs : List Held) (i j : ℕ) → i < length hs → get_or (promoted hs i) j none ≡ get_or hs (from i j) none
get_or-promoted hs i zero lt = refl
get_or-promoted hs i (suc k) lt =
    ⊎_elim
    (λ l. get_or-remove_below hs i none k l lt ∙ ap (λ m. get_or hs m none) (sym (from_low i k l)))
    (λ g. get_or-remove_above hs i none k g lt ∙ ap (λ m. get_or hs m none) (add-one k ∙ sym (from_high i k g)))
    (cases_lt k i)

length-promoted : (hs : List Held) (i : ℕ) → i < length hs → length (promoted hs i) ≡ length hs
length-promoted hs i lt = omega (arith, length-remove hs i lt)

pub small_area : (s : TileShape) (W H : ℕ) (x : Tile) (rect : Rect) → Covers s W H x rect → area rect ≤ 256
small_area s W H x rect covers = omega (arith, mul-le rect.width rect.height s.width s.height (omega (arith, covers.width)) (omega (arith, covers.height)), s.small)

-- what the type of a cache says of its slots
abbrev pub Kept : {K S : Type 0} → Ops K S → Image K → TileShape → Tiles → Type 0
Kept o b s t = record { ready : Ready o b s t; once : Once (listed t.held t.len) }

module _ {K S : Type 0} (o : Ops K S) (b : Image K) (s : TileShape) where
  -- a place of a tile has its entry inside the tile's slot
  in_slot : (t : Tile) (x y : ℕ) → x < tile_width b s t → y < tile_height b s t → y * tile_width b s t + x < 256
  in_slot t x y lx ly =
      omega (arith, mul-add-lt y (tile_width b s t) x (tile_height b s t) ly lx, mul-le (tile_width b s t) (tile_height b s t) s.width s.height (omega arith) (omega arith))

  module _ (t : Tiles) (ready : Ready o b s t) where
    pub long : t.len < length t.held
    long = omega (arith, ready.long, ready.few, s.few)

    pub ready_again : (i : ℕ) → i < t.len → Ready o b s (again t i)
    ready_again i lt =
        let l : i < length t.held = omega (arith, long) in
        let g : (j : ℕ) → get_or (promoted t.held i) j none ≡ get_or t.held (from i j) none = λ j. get_or-promoted t.held i j l in
        let i17 : i < 17 = omega (arith, ready.long) in
        record {
          few = ready.few;
          long = length-promoted t.held i l ∙ ready.long;
          room = ready.room;
          own = λ j lj. subst (λ (h : Held). h.slot < 17) (sym (g j)) (ready.own (from i j) (from_below 17 i j i17 lj));
          apart = λ j k lj lk e. from_inj i j k (ready.apart (from i j) (from i k) (from_below 17 i j i17 lj) (from_below 17 i k i17 lk) (ap (λ (h : Held). h.slot) (sym (g j)) ∙ e ∙ ap (λ (h : Held). h.slot) (g k)));
          good = λ j lj. subst (λ h. Good o b s t.entries h) (sym (g j)) (ready.good (from i j) (from_below t.len i j lt lj));
        }

    pub spare : slot_at t.held t.len < 17
    spare = ready.own t.len (omega (arith, ready.few, s.few))

    -- the spare slot is written
    pub ready_holding : (k : ℕ) (ys : List ℕ) → length ys ≡ k → k ≤ 256 → Ready o b s (holding t (put_mid (base (slot_at t.held t.len)) k t.entries ys))
    ready_holding k ys n le =
        let free = slot_at t.held t.len in
        let a : base free + k ≤ length t.entries = omega (arith, spare, ready.room) in
        record {
          few = ready.few;
          long = ready.long;
          room = length_mid _ k t.entries ys n a ∙ ready.room;
          own = ready.own;
          apart = ready.apart;
          good = λ j lj x y lx ly.
              let h = get_or t.held j none in
              let m = y * tile_width b s h.tile + x in
              let small : m < 256 = in_slot h.tile x y lx ly in
              let ne : h.slot ≡ free → ⊥ = λ e. let q : j ≡ t.len = ready.apart j t.len (omega (arith, ready.few, s.few)) (omega (arith, ready.few, s.few)) e in omega arith in
              let away : (base h.slot + m < base free) ⊎ (base free + k ≤ base h.slot + m) =
              ⊎_elim (λ (l : h.slot < free). inl (omega arith)) (λ (l : free ≤ h.slot). inr (omega arith)) (cases_lt h.slot free) in
              ready.good j lj x y lx ly ∙ ap Some (sym (outside _ k (base h.slot + m) t.entries ys n a away));
        }

    good_at : (x : Tile) → Good o b s t.entries (entered t x)
        → (g : (j : ℕ) → get_or (promoted (set t.held t.len (entered t x)) t.len) j none ≡ get_or (set t.held t.len (entered t x)) (from t.len j) none)
        → (j : ℕ) → j < min (t.len + 1) s.slots → Good o b s t.entries (get_or (promoted (set t.held t.len (entered t x)) t.len) j none)
    good_at x fresh g zero lj = subst (λ h. Good o b s t.entries h) (sym (get_or-set_same t.held t.len (entered t x) none long)) fresh
    good_at x fresh g (suc k) lj =
        let lt : k < t.len = omega arith in
        let ne : k ≡ t.len → ⊥ = λ e. omega arith in
        let e : get_or (promoted (set t.held t.len (entered t x)) t.len) (suc k) none ≡ get_or t.held k none =
        g (suc k) ∙ ap (λ m. get_or (set t.held t.len (entered t x)) m none) (from_low t.len k lt) ∙ get_or-set_other t.held t.len k (entered t x) none ne in
        subst (λ h. Good o b s t.entries h) (sym e) (ready.good k lt)

    -- the tile in the spare slot is listed
    pub ready_admitted : (x : Tile) → Good o b s t.entries (entered t x) → Ready o b s (admitted s.slots x t)
    ready_admitted x fresh =
        let len17 : t.len < 17 = omega (arith, long, ready.long) in
        let hs : List Held = set t.held t.len (entered t x) in
        let l' : t.len < length hs = omega (arith, long, length-set t.held t.len (entered t x)) in
        let g : (j : ℕ) → get_or (promoted hs t.len) j none ≡ get_or hs (from t.len j) none = λ j. get_or-promoted hs t.len j l' in
        let slots : (j : ℕ) → slot_at hs j ≡ slot_at t.held j = λ j.
        ⊎_elim
        (λ (e : j ≡ t.len). ap (slot_at hs) e ∙ ap (λ (h : Held). h.slot) (get_or-set_same t.held t.len (entered t x) none long) ∙ ap (slot_at t.held) (sym e))
        (λ (ne : j ≡ t.len → ⊥). ap (λ (h : Held). h.slot) (get_or-set_other t.held t.len j (entered t x) none ne))
        (cases_eq j t.len) in
        let f : (j : ℕ) → slot_at (promoted hs t.len) j ≡ slot_at t.held (from t.len j) = λ j. ap (λ (h : Held). h.slot) (g j) ∙ slots (from t.len j) in
        record {
          few = omega (arith, ready.few);
          long = length-promoted hs t.len l' ∙ length-set t.held t.len (entered t x) ∙ ready.long;
          room = ready.room;
          own = λ j lj. subst (λ n. n < 17) (sym (f j)) (ready.own (from t.len j) (from_below 17 t.len j len17 lj));
          apart = λ j k lj lk e. from_inj t.len j k (ready.apart (from t.len j) (from t.len k) (from_below 17 t.len j len17 lj) (from_below 17 t.len k len17 lk) (sym (f j) ∙ e ∙ f k));
          good = λ j lj. good_at x fresh g j lj;
        }

    module _ (x : Tile) (rect : Rect) (covers : Covers s b.width b.height x rect) where
      -- what was prepared into the spare slot
      pub fresh : (k : ℕ) (ys : List ℕ) → k ≡ area rect → length ys ≡ k → Shown o (nth b rect) (area rect) ys
          → Good o b s (put_mid (base (slot_at t.held t.len)) k t.entries ys) (entered t x)
      fresh k ys e n shown u v lu lv =
          let w = tile_width b s x in
          let a : base (slot_at t.held t.len) + k ≤ length t.entries = omega (arith, spare, ready.room, small_area s b.width b.height x rect covers) in
          let lu' : u < rect.width = omega (arith, covers.width) in
          let lv' : v < rect.height = omega (arith, covers.height) in
          let m : v * rect.width + u < area rect = mul-add-lt v rect.width u rect.height lv' lu' in
          let i : v * rect.width + u ≡ v * w + u = ap (λ q. v * q + u) covers.width in
          let p : nth b rect (v * rect.width + u) ≡ tile_place b s x u v =
          ap (λ q. b.at (rect.left + q) (rect.top + (v * rect.width + u) / rect.width)) (mod-mul-add v rect.width u lu')
          ∙ ap (λ q. b.at (rect.left + u) (rect.top + q)) (div-mul-add v rect.width u lu')
          ∙ ap (λ q. b.at (q + u) (rect.top + v)) covers.left
          ∙ ap (λ q. b.at (x.column * s.width + u) (q + v)) covers.top in
          let lt : v * w + u < k = omega arith in
          ap (coded o) (sym p) ∙ shown (v * rect.width + u) m ∙ ap (λ q. Some (get_or ys q 0)) i ∙ ap Some (sym (within _ k (v * w + u) t.entries ys n a lt))
