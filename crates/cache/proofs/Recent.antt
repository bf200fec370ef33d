-- A tile just used is the first one, and stays.
use Rattle.std.proofs.Common.{◌≡◌, ℕ, zero, suc, ◌≤◌, true, List, ◌∷◌, take, refl, ap, ◌∙◌, subst, arith}
use Rattle.std.proofs.lemmas.Bool.{and_from, eq-eqb, cond-true, cond_both}
use Rattle.cache.specs.declared.tile.Tile.{Tile}
use Rattle.cache.specs.Machine.{Walk, going, ended, same, lists, without}
use Rattle.cache.specs.Laws.{state_in, UsedFirst, UsedStays}
use Rattle.cache.proofs.Accounting.{lists-moved}

abbrev FirstIn : Tile → Walk → Type 0
FirstIn t (going s) = (older : List Tile) × (s.tiles ≡ t ∷ older)
FirstIn t (ended s) = Unit {0}

first_taken : (n : ℕ) (t : Tile) (ts : List Tile) → 1 ≤ n → (older : List Tile) × (take n (t ∷ ts) ≡ t ∷ older)
first_taken zero t ts h = absurd (omega arith)
first_taken (suc n) t ts h = (take n ts, refl)

pub used_first : UsedFirst
used_first slots whole s s' t some e =
    subst (FirstIn t) e
    (cond_both (lists s.tiles t) _ _ (FirstIn t)
    (λ _. (without s.tiles t, refl))
    (λ _. cond_both (whole t) _ _ (FirstIn t) (λ _. first_taken slots t s.tiles some) (λ _. tt)))

same_self : (t : Tile) → same t t ≡ true
same_self t = and_from _ _ (eq-eqb t.column t.column refl) (eq-eqb t.row t.row refl)

lists_first : (t : Tile) (ts : List Tile) → lists (t ∷ ts) t ≡ true
lists_first t ts = cond-true (same t t) true (lists ts t) (same_self t)

lists_second : (t u : Tile) (ts : List Tile) → lists ts u ≡ true → lists (t ∷ ts) u ≡ true
lists_second t u ts e = cond_both (same t u) true (lists ts u) (λ v. v ≡ true) (λ _. refl) (λ _. e)

second_taken : (n : ℕ) (t u : Tile) (ts : List Tile) → 2 ≤ n → lists (take n (t ∷ (u ∷ ts))) u ≡ true
second_taken zero t u ts h = absurd (omega arith)
second_taken (suc zero) t u ts h = absurd (omega arith)
second_taken (suc (suc n)) t u ts h = lists_second t u (u ∷ take n ts) (lists_first u (take n ts))

pub used_stays : UsedStays
used_stays slots whole s used next older two e =
    let listed : lists s.tiles used ≡ true = ap (λ l. lists l used) e ∙ lists_first used older in
    cond_both (lists s.tiles next) _ _ (λ w. lists (state_in w).tiles used ≡ true)
    (λ _. lists-moved s.tiles next used listed)
    (λ _. cond_both (whole next) _ _ (λ w. lists (state_in w).tiles used ≡ true)
    (λ _. ap (λ l. lists (take slots (next ∷ l)) used) e ∙ second_taken slots next used older two)
    (λ _. listed))
