-- Laws of the machine: no tile is listed twice, the list is not longer than the slots,
-- each prepare below is a fetch's or one of a bypass's two, and what is listed is not prepared again.
use Rattle.std.proofs.Common.{◌≡◌, ℕ, zero, suc, ◌+◌, ◌-◌, ◌*◌, ◌^◌, ◌<◌, ◌≤◌, Bool, true, false, cond, ◌&&◌, leb, List, [], ◌∷◌, length, take, sym, refl, ap, ◌∙◌, subst, ⊎_elim, arith}
use Rattle.std.proofs.lemmas.List.{length-take}
use Rattle.std.proofs.lemmas.Bool.{cond-true, cond-false, cond_both, cases_Bool, both_ways}
use Rattle.picture.specs.declared.rect.Rect.{Rect}
use Rattle.picture.specs.Images.{Image}
use Rattle.picture.specs.Prepare.{inside, area}
use Rattle.cache.specs.declared.shape.TileShape.{TileShape}
use Rattle.cache.specs.declared.tile.Tile.{Tile}
use Rattle.cache.specs.Machine.{State, Walk, going, ended, same, lists, without, visited, stepped, walked, settled, Once, Accounts}
use Rattle.cache.specs.Grid.{whole, across, down, touched}
use Rattle.cache.specs.Walks.{over_tiles}
use Rattle.cache.specs.Caching.{prepared, AllListed}
use Rattle.cache.proofs.Listing.{same_is}

parts : (p q : Bool) → cond p true q ≡ false → (p ≡ false) × (q ≡ false)
parts true q e = absurd (both_ways true e refl)
parts false q e = (refl, e)

lists-without : (ts : List Tile) (t u : Tile) → lists ts u ≡ false → lists (without ts t) u ≡ false
lists-without [] t u e = refl
lists-without (x ∷ xs) t u e =
    let w = parts (same x u) (lists xs u) e in
    cond_both (same x t) xs (x ∷ without xs t) (λ l. lists l u ≡ false) (λ _. w.1) (λ _. cond-false (same x u) true _ w.0 ∙ lists-without xs t u w.1)

lists-take : (n : ℕ) (ts : List Tile) (u : Tile) → lists ts u ≡ false → lists (take n ts) u ≡ false
lists-take zero ts u e = refl
lists-take (suc n) [] u e = refl
lists-take (suc n) (x ∷ xs) u e = let w = parts (same x u) (lists xs u) e in cond-false (same x u) true _ w.0 ∙ lists-take n xs u w.1

pub gone : (ts : List Tile) (t : Tile) → Once ts → lists (without ts t) t ≡ false
gone [] t h = refl
gone (x ∷ xs) t h =
    cond_both (same x t) xs (x ∷ without xs t) (λ l. lists l t ≡ false)
    (λ e. subst (λ u. lists xs u ≡ false) (same_is x t e) h.0)
    (λ e. cond-false (same x t) true _ e ∙ gone xs t h.1)

pub once_without : (ts : List Tile) (t : Tile) → Once ts → Once (without ts t)
once_without [] t h = tt
once_without (x ∷ xs) t h = cond_both (same x t) xs (x ∷ without xs t) Once (λ _. h.1) (λ _. (lists-without xs t x h.0, once_without xs t h.1))

pub once_take : (n : ℕ) (ts : List Tile) → Once ts → Once (take n ts)
once_take zero ts h = tt
once_take (suc n) [] h = tt
once_take (suc n) (x ∷ xs) h = (lists-take n xs x h.0, once_take n xs h.1)

-- a listed tile that moves to the front
length_without : (ts : List Tile) (t : Tile) → lists ts t ≡ true → suc (length (without ts t)) ≡ length ts
length_without [] t e = absurd (both_ways false refl e)
length_without (x ∷ xs) t e =
    ⊎_elim
    (λ y. ap (λ l. suc (length l)) (cond-true (same x t) xs (x ∷ without xs t) y))
    (λ n. ap (λ l. suc (length l)) (cond-false (same x t) xs (x ∷ without xs t) n) ∙ ap suc (length_without xs t (sym (cond-false (same x t) true (lists xs t) n) ∙ e)))
    (cases_Bool (same x t))

lists-kept : (ts : List Tile) (t u : Tile) → same t u ≡ false → lists ts u ≡ true → lists (without ts t) u ≡ true
lists-kept [] t u d e = absurd (both_ways false refl e)
lists-kept (x ∷ xs) t u d e =
    cond_both (same x t) xs (x ∷ without xs t) (λ l. lists l u ≡ true)
    (λ y. sym (cond-false (same x u) true (lists xs u) (ap (λ v. same v u) (same_is x t y) ∙ d)) ∙ e)
    (λ _. ⊎_elim
    (λ y. cond-true (same x u) true (lists (without xs t) u) y)
    (λ n. cond-false (same x u) true (lists (without xs t) u) n ∙ lists-kept xs t u d (sym (cond-false (same x u) true (lists xs u) n) ∙ e))
    (cases_Bool (same x u)))

-- what is listed still is where a tile moves to the front
pub lists-moved : (ts : List Tile) (t u : Tile) → lists ts u ≡ true → lists (t ∷ without ts t) u ≡ true
lists-moved ts t u e =
    ⊎_elim
    (λ y. cond-true (same t u) true (lists (without ts t) u) y)
    (λ n. cond-false (same t u) true (lists (without ts t) u) n ∙ lists-kept ts t u n e)
    (cases_Bool (same t u))

abbrev OnceIn : Walk → Type 0
OnceIn (going s) = Once s.tiles
OnceIn (ended s) = Once s.tiles

abbrev FewIn : ℕ → Walk → Type 0
FewIn n (going s) = length s.tiles ≤ n
FewIn n (ended s) = length s.tiles ≤ n

-- a walk that ended has asked once more than it has counted
abbrev Owes : State → State → Type 0
Owes s t = t.asked < 2 ^ 64 - 1 → t.fetches < 2 ^ 64 - 1 → t.bypasses < 2 ^ 64 - 1
    → t.asked + s.fetches + 2 * s.bypasses ≡ s.asked + t.fetches + 2 * t.bypasses + 1

abbrev AccountsIn : State → Walk → Type 0
AccountsIn s (going t) = Accounts s t
AccountsIn s (ended t) = Owes s t

-- the walk went on, below was not asked, and what was listed still is
abbrev QuietIn : State → Walk → Type 0
QuietIn s (going t) = (t.asked ≡ s.asked) × ((u : Tile) → lists s.tiles u ≡ true → lists t.tiles u ≡ true)
QuietIn s (ended t) = ⊥

module _ (slots : ℕ) (whole : Tile → Bool) where
  once_visited : (s : State) (t : Tile) → Once s.tiles → OnceIn (visited slots whole s t)
  once_visited s t h =
      cond_both (lists s.tiles t) _ _ OnceIn
      (λ _. (gone s.tiles t h, once_without s.tiles t h))
      (λ e. cond_both (whole t) _ _ OnceIn (λ _. once_take slots (t ∷ s.tiles) (e, h)) (λ _. h))

  few_visited : (s : State) (t : Tile) → length s.tiles ≤ slots → FewIn slots (visited slots whole s t)
  few_visited s t h =
      cond_both (lists s.tiles t) _ _ (FewIn slots)
      (λ e. omega (arith, length_without s.tiles t e))
      (λ _. cond_both (whole t) _ _ (FewIn slots) (λ _. omega (arith, length-take slots (t ∷ s.tiles))) (λ _. h))

  accounts_visited : (z s : State) (t : Tile) → Accounts z s → AccountsIn z (visited slots whole s t)
  accounts_visited z s t h =
      cond_both (lists s.tiles t) _ _ (AccountsIn z)
      (λ _. λ a f b. h a f b)
      (λ _. cond_both (whole t) _ _ (AccountsIn z)
      (λ _. λ a f b. omega (arith, h (omega arith) (omega arith) b))
      (λ _. λ a f b. omega (arith, h (omega arith) f b)))

  quiet_visited : (z s : State) (t : Tile) → lists z.tiles t ≡ true → QuietIn z (going s) → QuietIn z (visited slots whole s t)
  quiet_visited z s t l h =
      subst (QuietIn z) (sym (cond-true (lists s.tiles t) _ _ (h.1 t l))) (h.0, λ u e. lists-moved s.tiles t u (h.1 u e))

  -- what holds of a state and stays at each visit holds behind a walk
  module _ (In : Walk → Type 0) (f : ℕ → Tile) (s : State) (start : In (going s)) where
    along_step : (w : Walk) (t : Tile) → In w → ((v : State) → In (going v) → In (visited slots whole v t)) → In (stepped slots whole w t)
    along_step (going v) t h step = step v h
    along_step (ended v) t h step = h

    along : (n : ℕ) → ((k : ℕ) → k < n → (v : State) → In (going v) → In (visited slots whole v (f k))) → In (walked slots whole f n s)
    along zero step = start
    along (suc n) step = along_step (walked slots whole f n s) (f n) (along n (λ k lt. step k (omega arith))) (step n (omega arith))

once_settled : (w : Walk) → OnceIn w → Once (settled w).tiles
once_settled (going s) h = h
once_settled (ended s) h = h

few_settled : (n : ℕ) (w : Walk) → FewIn n w → length (settled w).tiles ≤ n
few_settled n (going s) h = h
few_settled n (ended s) h = h

accounts_settled : (z : State) (w : Walk) → AccountsIn z w → Accounts z (settled w)
accounts_settled z (going s) h = h
accounts_settled z (ended s) h = λ a f b. omega (arith, h (omega arith) f (omega arith))

quiet_settled : (z : State) (w : Walk) → QuietIn z w → (settled w).asked ≡ z.asked
quiet_settled z (going s) h = h.0
quiet_settled z (ended s) h = absurd h

module _ {K : Type 0} (b : Image K) (s : TileShape) (rect : Rect) (len : ℕ) (st : State) where
  -- behind a prepare, from what holds behind the walk
  by_walk : (Q : State → Type 0) → Q (settled (over_tiles b s rect st)) → Q st → Q (prepared b s rect len st)
  by_walk Q h k = cond_both (inside b rect && leb (area rect) len) _ _ Q (λ _. h) (λ _. k)

  pub once_prepared : Once st.tiles → Once (prepared b s rect len st).tiles
  once_prepared h =
      by_walk (λ x. Once x.tiles) (once_settled (over_tiles b s rect st) (along s.slots (whole b s) OnceIn (touched s rect) st h (across s rect * down s rect) (λ k lt v. once_visited s.slots (whole b s) v (touched s rect k)))) h

  pub few_prepared : length st.tiles ≤ s.slots → length (prepared b s rect len st).tiles ≤ s.slots
  few_prepared h =
      by_walk (λ x. length x.tiles ≤ s.slots)
      (few_settled s.slots (over_tiles b s rect st) (along s.slots (whole b s) (FewIn s.slots) (touched s rect) st h (across s rect * down s rect) (λ k lt v. few_visited s.slots (whole b s) v (touched s rect k)))) h

  pub accounts_prepared : Accounts st (prepared b s rect len st)
  accounts_prepared =
      by_walk (Accounts st)
      (accounts_settled st (over_tiles b s rect st) (along s.slots (whole b s) (AccountsIn st) (touched s rect) st (λ a f c. refl) (across s rect * down s rect) (λ k lt v. accounts_visited s.slots (whole b s) st v (touched s rect k))))
      (λ a f c. refl)

  pub quiet_prepared : AllListed s rect st → (prepared b s rect len st).asked ≡ st.asked
  quiet_prepared all =
      by_walk (λ x. x.asked ≡ st.asked)
      (quiet_settled st (over_tiles b s rect st) (along s.slots (whole b s) (QuietIn st) (touched s rect) st (refl, λ u e. e) (across s rect * down s rect) (λ k lt v. quiet_visited s.slots (whole b s) st v (touched s rect k) (all k lt)))) refl
