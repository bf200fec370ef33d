-- A sum of taps does not depend on their order: by columns it is what it is by rows.
use Rattle.std.proofs.Common.{◌≡◌, List, [], ◌∷◌, ◌++◌, length, ℕ, zero, suc, ◌+◌, ◌*◌, ◌<◌, ◌≤◌, ℤ, nat_abs, Some, Option, sym, refl, ap, ◌∙◌, subst, add-zero, add-suc, mul_comm, add-one, arith}
use Rattle.std.specs.List.{FoldsTo, fold, range_with_len}
use Rattle.std.specs.Fn.{Called}
use Rattle.std.specs.Iterator.{CallableAtEachTurn, Drains, FoldTurn}
use Rattle.std.proofs.iter.Yields.{nat_range_steps}
use Rattle.std.proofs.lemmas.Fn.{serves_by}
use Rattle.std.proofs.lemmas.List.{length-append}
use Rattle.std.proofs.lemmas.List.FromFn.{get_or-range_with_len, length-range_with_len}
use Rattle.std.proofs.lemmas.Iterator.{YieldsList-from_range}
use Rattle.std.proofs.lemmas.Iterator.Consumers.{YieldsList-turn, fold_from_yields_List}
use denote.Param.Members.{Mut}
use Rattle.pixel.specs.Ops.{Ops}
use Rattle.picture.specs.Compose.{summed}
use Rattle.layer.specs.Sums.{or_black, downward, columned}
use Rattle.picture.proofs.Serving.{next_row}

module _ {K S : Type 0} (o : Ops K S) where
  -- two weighted pixels added in either order give the same sum
  abbrev pub Commutes : Type 0
  Commutes = (s : S) (p q : K) (a b : ℤ) → o.more (o.more s p a) q b ≡ o.more (o.more s q b) p a

  -- a sum with n more taps, from the m-th on
  abbrev onward : (ℕ → K) → (ℕ → ℤ) → ℕ → S → ℕ → S
  onward p w m s zero = s
  onward p w m s (suc n) = o.more (onward p w m s n) (p (m + n)) (w (m + n))

  onward-summed : (p : ℕ → K) (w : ℕ → ℤ) (m n : ℕ) → onward p w m (summed o p w m) n ≡ summed o p w (m + n)
  onward-summed p w m zero = rw add-zero
  onward-summed p w m (suc n) = rw add-suc (ap (λ s. o.more s (p (m + n)) (w (m + n))) (onward-summed p w m n))

  -- one more tap may be added before a column or behind it
  column_past : Commutes → (p : ℕ → K) (w : ℕ → ℤ) (a q : ℕ) (s : S) (x : K) (y : ℤ) (r : ℕ) → downward o p w a q (o.more s x y) r ≡ o.more (downward o p w a q s r) x y
  column_past c p w a q s x y zero = refl
  column_past c p w a q s x y (suc r) =
      ap (λ t. o.more t (p (r * a + q)) (w (r * a + q))) (column_past c p w a q s x y r) ∙ c (downward o p w a q s r) x (p (r * a + q)) y (w (r * a + q))

  columns_past : Commutes → (p : ℕ → K) (w : ℕ → ℤ) (a q m : ℕ) (s : S) (n r : ℕ) → downward o p w a q (onward p w m s n) r ≡ onward p w m (downward o p w a q s r) n
  columns_past c p w a q m s zero r = refl
  columns_past c p w a q m s (suc n) r =
      column_past c p w a q (onward p w m s n) (p (m + n)) (w (m + n)) r ∙ ap (λ t. o.more t (p (m + n)) (w (m + n))) (columns_past c p w a q m s n r)

  -- the last row of the columns may be added behind them
  last_row : Commutes → (p : ℕ → K) (w : ℕ → ℤ) (a b q : ℕ) → columned o p w a (suc b) q ≡ onward p w (b * a) (columned o p w a b q) q
  last_row c p w a b zero = refl
  last_row c p w a b (suc q) =
      ap (λ s. o.more (downward o p w a q s b) (p (b * a + q)) (w (b * a + q))) (last_row c p w a b q)
      ∙ ap (λ s. o.more s (p (b * a + q)) (w (b * a + q))) (columns_past c p w a q (b * a) (columned o p w a b q) q b)

  no_rows : (p : ℕ → K) (w : ℕ → ℤ) (a q : ℕ) → columned o p w a 0 q ≡ o.empty
  no_rows p w a zero = refl
  no_rows p w a (suc q) = no_rows p w a q

  rows_of : Commutes → (p : ℕ → K) (w : ℕ → ℤ) (a b : ℕ) → columned o p w a b a ≡ summed o p w (b * a)
  rows_of c p w a zero = no_rows p w a a ∙ let z : 0 ≡ 0 * a = omega arith in ap (summed o p w) z
  rows_of c p w a (suc b) =
      last_row c p w a b a ∙ ap (λ s. onward p w (b * a) s a) (rows_of c p w a b) ∙ onward-summed p w (b * a) a
      ∙ ap (summed o p w) (sym (ap (λ n. n * a) (sym (add-one b)) ∙ next_row b a))

  -- a window summed by columns is the sum of its taps in reading order
  pub by_columns : Commutes → (p : ℕ → K) (w : ℕ → ℤ) (a b : ℕ) → columned o p w a b a ≡ summed o p w (a * b)
  by_columns c p w a b = rows_of c p w a b ∙ ap (summed o p w) (mul_comm b a)

  -- the columns, one added to the others after another
  columned_fold : (p : ℕ → K) (w : ℕ → ℤ) (a b k n : ℕ) → fold (λ s q. downward o p w a q s b) (columned o p w a b k) (range_with_len k n) ≡ columned o p w a b (k + n)
  columned_fold p w a b k zero = rw add-zero
  columned_fold p w a b k (suc n) =
      ap (λ s. fold (λ s q. downward o p w a q s b) s (range_with_len (k + 1) n)) (ap (columned o p w a b) (sym (add-one k))) ∙ columned_fold p w a b (k + 1) n ∙ ap (columned o p w a b) (let e : k + 1 + n ≡ k + suc n = omega arith in e)

  -- what such a fold comes to
  pub folded_columns : (p : ℕ → K) (w : ℕ → ℤ) (a b : ℕ) {F : Type 0} (m : Mut F (S × (ℕ × Unit {0})) S) (f : F) (s r : S)
      → (xs : List ℕ) × (q : F) × Drains nat_range_steps (record { start = 0; end = a }) xs × FoldsTo {P = F × S} (λ k x v. Called m k.0 (k.1, (x, tt)) v.1 v.0) (f, s) xs (q, r) → s ≡ o.empty
      → ((s : S) (x : ℕ) (v : S) (q : F) → Called m f (s, (x, tt)) v q → (q ≡ f) × (v ≡ downward o p w a x s b)) → r ≡ columned o p w a b a
  folded_columns p w a b m f s r ran e says =
      let z : 0 + a ≡ a = omega arith in
      fold_from_yields_List m (λ s q. downward o p w a q s b) s r ran (YieldsList-from_range 0 a a refl (omega arith)) says
      ∙ ap (λ s. fold (λ s q. downward o p w a q s b) s (range_with_len 0 a)) e ∙ columned_fold p w a b 0 a ∙ ap (columned o p w a b) z

  pub summed_same : (p q : ℕ → K) (w x : ℕ → ℤ) (n : ℕ) → ((k : ℕ) → k < n → p k ≡ q k) → ((k : ℕ) → k < n → w k ≡ x k) → summed o p w n ≡ summed o q x n
  summed_same p q w x zero h e = refl
  summed_same p q w x (suc n) h e =
      ap (λ s. o.more s (p n) (w n)) (summed_same p q w x n (λ k l. h k (omega arith)) (λ k l. e k (omega arith)))
      ∙ ap (λ z. o.more (summed o q x n) z (w n)) (h n (omega arith))
      ∙ ap (λ z. o.more (summed o q x n) (q n) z) (e n (omega arith))

  pub downward_more : (p : ℕ → K) (w : ℕ → ℤ) (a q : ℕ) (s : S) (r : ℕ) → downward o p w a q s (r + 1) ≡ o.more (downward o p w a q s r) (p (r * a + q)) (w (r * a + q))
  downward_more p w a q s r = rw add-one

  pub or_black_is : (c : Option K) (d k : K) → c ≡ Some k → or_black d c ≡ k
  or_black_is c d k e = ap (or_black d) e

  module _ (held : S → ℕ → Type 0) where
    abbrev pub Grown : Type 0
    Grown = (s : S) (p : K) (w : ℤ) (n : ℕ) → held s n → nat_abs w ≤ 256 → held (o.more s p w) (n + 1)

    pub held_down : Grown → (p : ℕ → K) (w : ℕ → ℤ) → ((k : ℕ) → nat_abs (w k) ≤ 256) → (a q : ℕ) (s : S) (n r : ℕ) → held s n → held (downward o p w a q s r) (n + r)
    held_down g p w l a q s n zero h = rw add-zero h
    held_down g p w l a q s n (suc r) h =
        let e : n + r + 1 ≡ n + suc r = omega arith in
        subst (held (downward o p w a q s (suc r))) e (g (downward o p w a q s r) (p (r * a + q)) (w (r * a + q)) (n + r) (held_down g p w l a q s n r h) (l (r * a + q)))

    pub held_columns : Grown → (p : ℕ → K) (w : ℕ → ℤ) → ((k : ℕ) → nat_abs (w k) ≤ 256) → held o.empty 0 → (a b q : ℕ) → held (columned o p w a b q) (q * b)
    held_columns g p w l h a b zero = let e : 0 ≡ 0 * b = omega arith in subst (held o.empty) e h
    held_columns g p w l h a b (suc q) =
        let e : q * b + b ≡ suc q * b = sym (ap (λ n. n * b) (sym (add-one q)) ∙ next_row q b) in
        subst (held (columned o p w a b (suc q))) e (held_down g p w l a q (columned o p w a b q) (q * b) b (held_columns g p w l h a b q))

    -- the same of a sum that is such a one
    pub held_down_as : Grown → (p : ℕ → K) (w : ℕ → ℤ) → ((k : ℕ) → nat_abs (w k) ≤ 256) → (a q : ℕ) (s t : S) (n r : ℕ) → t ≡ downward o p w a q s r → held s n → held t (n + r)
    held_down_as g p w l a q s t n r e h = subst (λ z. held z (n + r)) (sym e) (held_down g p w l a q s n r h)

    pub held_columns_as : Grown → (p : ℕ → K) (w : ℕ → ℤ) → ((k : ℕ) → nat_abs (w k) ≤ 256) → held o.empty 0 → (a b q : ℕ) (s : S) → s ≡ columned o p w a b q → held s (q * b)
    held_columns_as g p w l h a b q s e = subst (λ z. held z (q * b)) (sym e) (held_columns g p w l h a b q)

    -- what the closure of a fold over the columns may be asked
    pub serves_columns : Grown → (p : ℕ → K) (w : ℕ → ℤ) → ((k : ℕ) → nat_abs (w k) ≤ 256) → held o.empty 0 → (a b : ℕ) {F : Type 0} (m : Mut F (S × (ℕ × Unit {0})) S) (f : F) (s : S) (Q : F × S → ℕ → Type 0) → s ≡ o.empty
        → ((s : S) (x : ℕ) (v : S) (q : F) → Called m f (s, (x, tt)) v q → (q ≡ f) × (v ≡ downward o p w a x s b)) → ((s : S) (x : ℕ) → x < a → held s (x * b) → Q (f, s) x)
        → CallableAtEachTurn nat_range_steps (FoldTurn m) Q (record { start = 0; end = a }) (f, s)
    serves_columns grown p w l none a b {F} m f s Q e says asks =
        serves_by (FoldTurn m) (λ xs q. (q.0 ≡ f) × held q.1 (length xs * b))
        (λ xs q x v j r.
        let d = says q.1 x v.1 v.0 (subst (λ (k : F). Called m k (q.1, (x, tt)) v.1 v.0) j.0 r) in
        let n : length xs * b + b ≡ length (xs ++ (x ∷ [])) * b = sym (next_row (length xs) b) ∙ ap (λ z. z * b) (sym (length-append xs (x ∷ []))) in
        (d.0, subst (held v.1) n (held_down_as grown p w l a x q.1 v.1 (length xs * b) b d.1 j.1)))
        nat_range_steps Q (record { start = 0; end = a }) (f, s) (refl, held_columns_as grown p w l none a b 0 s e)
        (λ xs t q x u y k j.
        let m = YieldsList-turn (YieldsList-from_range 0 a a refl (omega arith)) xs t y (Some x) u x refl k in
        let lt : length xs < a = omega (arith, m.0, length-range_with_len 0 a) in
        let at : x ≡ length xs = omega (arith, m.1 ∙ get_or-range_with_len 0 a (length xs) x lt) in
        subst (λ (z : F). Q (z, q.1) x) (sym j.0) (asks q.1 x (omega (arith, at, lt)) (subst (λ z. held q.1 (z * b)) (sym at) j.1)))
