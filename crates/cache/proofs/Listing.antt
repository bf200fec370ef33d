-- The listed tiles as the machine has them.
use Rattle.std.proofs.Common.{◌≡◌, ℕ, zero, suc, ◌+◌, ◌-◌, ◌<◌, ◌≤◌, true, false, ◌⊎◌, List, [], ◌∷◌, ◌++◌, map, length, get_or, take, drop, set, Some, None, sym, refl, ap, ◌∙◌, ⊎_elim, arith}
use Rattle.std.proofs.lemmas.List.{length-take-le, take_all, take-append-le, take-map, drop-map, map-append, get_or-map, get_or-take, length-map, take-set, get_or-set_same}
use Rattle.std.specs.List.{position, position_or_len}
use Rattle.std.proofs.lemmas.List.Quantifiers.{position-Some}
use Rattle.std.proofs.lemmas.List.Sums.{fails_before_first}
use Rattle.std.proofs.lemmas.Grind.{common_steps}
use Rattle.std.proofs.lemmas.Bool.{and_parts, eqb-true, cond-true, cond-false}
use Rattle.cache.specs.declared.held.Held.{Held}
use Rattle.cache.specs.declared.tile.Tile.{Tile}
use Rattle.cache.specs.Machine.{same, lists, without}
use Rattle.cache.specs.Order.{none, tile_at, promoted, listed}

abbrev tile_of : Held → Tile
tile_of h = h.tile

pub same_is : (x t : Tile) → same x t ≡ true → x ≡ t
same_is x t e =
    let w = and_parts _ _ e in
    ap (λ c. record { column = c; row = x.row }) (eqb-true _ _ w.0) ∙ ap (λ r. record { column = t.column; row = r }) (eqb-true _ _ w.1)

-- where a tile is the i-th, and none before it
found : (ts : List Tile) (t d : Tile) (i : ℕ) → i < length ts → same (get_or ts i d) t ≡ true → ((k : ℕ) → k < i → same (get_or ts k d) t ≡ false)
    → (lists ts t ≡ true) × (without ts t ≡ take i ts ++ drop (suc i) ts)
found [] t d i lt e before = absurd (omega arith)
found (x ∷ xs) t d zero lt e before = (cond-true (same x t) true (lists xs t) e, cond-true (same x t) xs (x ∷ without xs t) e)
found (x ∷ xs) t d (suc i) lt e before =
    let s = before 0 (omega arith) in
    let w = found xs t d i (omega arith) e (λ k h. before (suc k) (omega arith)) in
    (cond-false (same x t) true (lists xs t) s ∙ w.0, cond-false (same x t) xs (x ∷ without xs t) s ∙ ap (λ l. x ∷ l) w.1)

missed : (ts : List Tile) (t d : Tile) → ((k : ℕ) → k < length ts → same (get_or ts k d) t ≡ false) → lists ts t ≡ false
missed [] t d h = refl
missed (x ∷ xs) t d h = cond-false (same x t) true (lists xs t) (h 0 (omega arith)) ∙ missed xs t d (λ k lt. h (suc k) (omega arith))

take_removed : {X : Type 0} (xs : List X) (i n : ℕ) → i ≤ n → i < length xs → take n (take i xs ++ drop (suc i) xs) ≡ take i (take (suc n) xs) ++ drop (suc i) (take (suc n) xs)
take_removed [] i n le lt = absurd (omega arith)
take_removed (x ∷ xs) zero n le lt = refl
take_removed (x ∷ xs) (suc i) zero le lt = absurd (omega arith)
take_removed (x ∷ xs) (suc i) (suc n) le lt = ap (λ l. x ∷ l) (take_removed xs i n (omega arith) (omega arith))

none_before : (ts : List Tile) (t d : Tile) → position (λ x. same x t) ts ≡ None → (k : ℕ) → k < length ts → same (get_or ts k d) t ≡ false
none_before ts t d e k lt =
    let all : length ts ≤ position_or_len (λ x. same x t) ts = grind (arith, common_steps) in
    fails_before_first (λ x. same x t) ts k d (omega arith)

-- a tile that is the i-th of those listed, and what becomes of the list where it goes to the front
pub record Listed (hs : List Held) (len : ℕ) (t : Tile) (i : ℕ) : Type 0 where
  pub below : i < len
  pub at : tile_at hs i ≡ t
  pub lists : lists (listed hs len) t ≡ true
  pub moved : listed (promoted hs i) len ≡ t ∷ without (listed hs len) t

module _ (hs : List Held) (len : ℕ) (t : Tile) (long : len ≤ length hs) where
  pub length-listed : length (listed hs len) ≡ len
  length-listed = length-map (take len hs) tile_of ∙ length-take-le len hs long

  listed_at : (k : ℕ) → k < len → get_or (listed hs len) k none.tile ≡ tile_at hs k
  listed_at k lt =
      let l : k < length (take len hs) = omega (arith, length-take-le len hs long) in
      get_or-map tile_of (take len hs) k none none.tile l ∙ ap tile_of (get_or-take len hs k none lt)

  pub listed-hit : (i : ℕ) → position (λ x. same x t) (listed hs len) ≡ Some i → Listed hs len t i
  listed-hit i e =
      let p = position-Some (λ x. same x t) (listed hs len) i none.tile e in
      let lt : i < len = omega (arith, length-listed, p.0) in
      let at : tile_at hs i ≡ t = same_is _ _ (ap (λ x. same x t) (sym (listed_at i lt)) ∙ p.1) in
      let w = found (listed hs len) t none.tile i p.0 p.1 p.2 in
      let m : suc (len - 1) ≡ len = omega arith in
      let q : take len (promoted hs i) ≡ get_or hs i none ∷ (take i (take len hs) ++ drop (suc i) (take len hs)) =
      ap (λ n. take n (promoted hs i)) (sym m) ∙ ap (λ l. get_or hs i none ∷ l) (take_removed hs i (len - 1) (omega arith) (omega arith))
      ∙ ap (λ n. get_or hs i none ∷ (take i (take n hs) ++ drop (suc i) (take n hs))) m in
      record {
        below = lt;
        at = at;
        lists = w.0;
        moved = ap (map tile_of) q ∙ ap (λ l. tile_at hs i ∷ l) (map-append tile_of (take i (take len hs)) (drop (suc i) (take len hs)))
            ∙ ap (λ l. tile_at hs i ∷ (l ++ map tile_of (drop (suc i) (take len hs)))) (sym (take-map tile_of i (take len hs)))
            ∙ ap (λ l. tile_at hs i ∷ (take i (listed hs len) ++ l)) (sym (drop-map tile_of (suc i) (take len hs)))
            ∙ ap (λ l. tile_at hs i ∷ l) (sym w.1)
            ∙ ap (λ x. x ∷ without (listed hs len) t) at;
      }

  pub listed_miss : position (λ x. same x t) (listed hs len) ≡ None → lists (listed hs len) t ≡ false
  listed_miss e = missed (listed hs len) t none.tile (none_before (listed hs len) t none.tile e)

  -- a tile that was fetched into the place behind the listed ones goes to the front
  pub listed-fetched : (h : Held) (slots len' : ℕ) → len < length hs → len ≤ slots → h.tile ≡ t → (len' ≡ len + 1) ⊎ ((len' ≡ slots) × (len ≡ slots)) → len' ≤ slots
      → listed (promoted (set hs len h) len) len' ≡ take slots (t ∷ listed hs len)
  listed-fetched h slots len' lt le e new le' =
      let f : promoted (set hs len h) len ≡ (h ∷ take len hs) ++ drop (suc len) (set hs len h) =
      ap (λ x. x ∷ (take len (set hs len h) ++ drop (suc len) (set hs len h))) (get_or-set_same hs len h none lt)
      ∙ ap (λ l. h ∷ (l ++ drop (suc len) (set hs len h))) (take-set hs len h) in
      let n : length (h ∷ take len hs) ≡ suc len = ap suc (length-take-le len hs long) in
      let le'' : len' ≤ length (h ∷ take len hs) = ⊎_elim (λ q. omega arith) (λ q. omega (arith, q.0, q.1)) new in
      let body : List Tile = t ∷ listed hs len in
      let blen : length body ≡ suc len = ap suc length-listed in
      ap (λ l. map tile_of (take len' l)) f
      ∙ ap (map tile_of) (take-append-le len' (h ∷ take len hs) (drop (suc len) (set hs len h)) le'')
      ∙ sym (take-map tile_of len' (h ∷ take len hs))
      ∙ ap (λ x. take len' (x ∷ listed hs len)) e
      ∙ ⊎_elim
      (λ q. take_all len' body (omega (arith, blen)) ∙ sym (take_all slots body (omega (arith, blen))))
      (λ q. ap (λ k. take k body) q.0)
      new
