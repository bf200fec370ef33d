-- What a read answers and leaves, for any store: f is what stands at its places.
use Rattle.std.proofs.Common.{◌≡◌, ℕ, zero, suc, ◌+◌, ◌-◌, ◌^◌, ◌<◌, ◌≤◌, List, map, length, get_or, Ok, Err, Result, sym, refl, ap, ◌∙◌, ⊎_elim, add-zero, zero-add, arith}
use Rattle.std.specs.List.{range_with_len}
use Rattle.std.proofs.lemmas.Bool.Decides.{leb_tells}
use Rattle.std.proofs.lemmas.List.FromFn.{fill_by_all, get_or-map-range_with_len, length-map-range_with_len}
use Rattle.store.specs.declared.lack.Lack.{Lack}
use Rattle.store.specs.declared.lack.Lack.TheVariants.{Missing, Unread}
use Rattle.store.specs.Cells.{Cell, byte, missing, unread, capped}
use Rattle.store.specs.Reads.{answer, before, filled, instead, place_of, value}

pub answer-none : (f : ℕ → Cell) (p : ℕ) → answer f p 0 ≡ Ok tt
unfolding answer
answer-none f p = refl

-- what a place's cell answers counts only where it is a byte
past_byte : (x : Cell) (p : ℕ) (r s t : Result Unit Lack) → before x p r ≡ Ok tt → (r ≡ Ok tt → s ≡ t) → before x p s ≡ t
past_byte (byte _) p r s t e h = h e
past_byte missing p r s t e h = cc
past_byte unread p r s t e h = cc

-- behind k bytes the rest answers
pub answer_past : (f : ℕ → Cell) (p k m : ℕ) → answer f p k ≡ Ok tt → answer f p (k + m) ≡ answer f (p + k) m
unfolding answer
answer_past f p zero m e = rw (zero-add, add-zero)
answer_past f p (suc k) m e =
    let a : suc k + m ≡ suc (k + m) = omega arith in
    let b : p + suc k ≡ p + 1 + k = omega arith in
    rw (a, b) (past_byte (f p) p (answer f (p + 1) k) (answer f (p + 1) (k + m)) (answer f (p + 1 + k) m) e (answer_past f (p + 1) k m))

-- behind k bytes place p + k answers
pub answer_at : (f : ℕ → Cell) (p n k : ℕ) → k < n → answer f p k ≡ Ok tt → answer f p n ≡ before (f (p + k)) (p + k) (answer f (p + k + 1) (n - k - 1))
unfolding answer
answer_at f p n k h e =
    let a : n ≡ k + suc (n - k - 1) = omega arith in
    ap (answer f p) a ∙ answer_past f p k (suc (n - k - 1)) e

-- one byte more
pub answer_more : (f : ℕ → Cell) (p k b : ℕ) → answer f p k ≡ Ok tt → f (p + k) ≡ byte b → answer f p (k + 1) ≡ Ok tt
unfolding answer
answer_more f p k b e h = answer_past f p k 1 e ∙ ap (λ x. before x (p + k) (Ok tt)) h

-- where k + m places are bytes, so are the first k
pub answer_front : (f : ℕ → Cell) (p k m : ℕ) → answer f p (k + m) ≡ Ok tt → answer f p k ≡ Ok tt
unfolding answer
answer_front f p zero m e = refl
answer_front f p (suc k) m e =
    let a : suc k + m ≡ suc (k + m) = omega arith in
    let b : answer f p (suc (k + m)) ≡ Ok tt = rw a at e in
    past_byte (f p) p (answer f (p + 1) (k + m)) (answer f (p + 1) k) (Ok tt) b (answer_front f (p + 1) k m)

byte_of : (x : Cell) (p : ℕ) (r : Result Unit Lack) → before x p r ≡ Ok tt → (b : ℕ) × (x ≡ byte b)
byte_of (byte b) p r e = (b, refl)
byte_of missing p r e = let z : ◌≡◌ {A = ℕ} 0 1 = cc in absurd (omega arith)
byte_of unread p r e = let z : ◌≡◌ {A = ℕ} 0 1 = cc in absurd (omega arith)

-- where a read is answered, each of its places is a byte
pub answer_each : (f : ℕ → Cell) (p n k : ℕ) → k < n → answer f p n ≡ Ok tt → (b : ℕ) × (f (p + k) ≡ byte b)
answer_each f p n k h e =
    let a : k + (n - k) ≡ n = omega arith in
    let i : answer f p k ≡ Ok tt = answer_front f p k (n - k) (ap (answer f p) a ∙ e) in
    byte_of (f (p + k)) (p + k) (answer f (p + k + 1) (n - k - 1)) (sym (answer_at f p n k h i) ∙ e)

-- where each place is a byte, a read is answered
pub answer_by : (f : ℕ → Cell) (p n : ℕ) → ((k : ℕ) → k < n → (b : ℕ) × (f (p + k) ≡ byte b)) → answer f p n ≡ Ok tt
answer_by f p zero h = answer-none f p
answer_by f p (suc n) h =
    let a : suc n ≡ n + 1 = omega arith in
    let y = h n (omega arith) in
    ap (answer f p) a ∙ answer_more f p n y.0 (answer_by f p n (λ k l. h k (omega arith))) y.1

-- behind k bytes a place that is none is named
pub answer_stop : (f : ℕ → Cell) (p k n : ℕ) (y : Cell) (x : Lack) → k < n → answer f p k ≡ Ok tt → f (p + k) ≡ y
    → ((r : Result Unit Lack) → before y (p + k) r ≡ Err x) → answer f p n ≡ Err x
answer_stop f p k n y x h e is b =
    let rest = answer f (p + k + 1) (n - k - 1) in
    answer_at f p n k h e ∙ ap (λ z. before z (p + k) rest) is ∙ b rest

-- stores that have the same at each place of a read answer it alike
pub answer_same : (f g : ℕ → Cell) (p q n : ℕ) → p ≡ q → ((k : ℕ) → k < n → f (p + k) ≡ g (p + k)) → answer f p n ≡ answer g q n
unfolding answer
answer_same f g p q zero i h = refl
answer_same f g p q (suc n) i h =
    let here : f p ≡ g p = ap f (sym (add-zero p)) ∙ h 0 (omega arith) ∙ ap g (add-zero p) in
    let rest : answer f (p + 1) n ≡ answer g (q + 1) n =
    answer_same f g (p + 1) (q + 1) n (omega arith) (λ k l. let z : p + 1 + k ≡ p + suc k = omega arith in ap f z ∙ h (suc k) (omega arith) ∙ ap g (sym z)) in
    ap (λ x. before x p (answer f (p + 1) n)) here ∙ ap (before (g p) p) rest ∙ ap (λ z. before (g z) z (answer g (q + 1) n)) i

-- where a read is refused: behind count bytes, at a place that is none
pub record Stop (f : ℕ → Cell) (p n : ℕ) (x : Lack) : Type 0 where
  pub count : ℕ
  pub within : count < n
  pub place : place_of x ≡ p + count
  pub good : answer f p count ≡ Ok tt
  pub lacks : (r : Result Unit Lack) → before (f (p + count)) (p + count) r ≡ Err x

stop_here : (f : ℕ → Cell) (p n : ℕ) (x : Lack) → place_of x ≡ p → ((r : Result Unit Lack) → before (f p) p r ≡ Err x) → Stop f p (suc n) x
stop_here f p n x i h =
    record {
      count = 0;
      within = omega arith;
      place = i ∙ sym (add-zero p);
      good = answer-none f p;
      lacks = λ r. ap (λ z. before (f z) z r) (add-zero p) ∙ h r;
    }

stop_later : (f : ℕ → Cell) (p n b : ℕ) (x : Lack) → f p ≡ byte b → Stop f (p + 1) n x → Stop f p (suc n) x
unfolding answer
stop_later f p n b x e s =
    let z : p + suc s.count ≡ p + 1 + s.count = omega arith in
    record {
      count = suc s.count;
      within = omega (arith, s.within);
      place = omega (arith, s.place);
      good = ap (λ y. before y p (answer f (p + 1) s.count)) e ∙ s.good;
      lacks = λ r. ap (λ z. before (f z) z r) z ∙ s.lacks r;
    }

stop_more : (f : ℕ → Cell) (p n : ℕ) (y : Cell) (x : Lack) → f p ≡ y → before y p (answer f (p + 1) n) ≡ Err x → (answer f (p + 1) n ≡ Err x → Stop f (p + 1) n x) → Stop f p (suc n) x
stop_more f p n (byte b) x e a h = stop_later f p n b x e (h a)
stop_more f p n missing x e a h = let i : Missing p ≡ x = cc in stop_here f p n x (ap place_of (sym i)) (λ r. ap (λ z. before z p r) e ∙ ap Err i)
stop_more f p n unread x e a h = let i : Unread p ≡ x = cc in stop_here f p n x (ap place_of (sym i)) (λ r. ap (λ z. before z p r) e ∙ ap Err i)

pub stop : (f : ℕ → Cell) (p n : ℕ) (x : Lack) → answer f p n ≡ Err x → Stop f p n x
unfolding answer
stop f p zero x e = let z : ◌≡◌ {A = ℕ} 0 1 = cc in absurd (omega arith)
stop f p (suc n) x e = stop_more f p n (f p) x refl e (stop f (p + 1) n x)

-- a read that is refused stays so where it goes on
pub answer_refused : (f : ℕ → Cell) (p k n : ℕ) (x : Lack) → k ≤ n → answer f p k ≡ Err x → answer f p n ≡ Err x
answer_refused f p k n x h e =
    let s = stop f p k x e in
    answer_stop f p s.count n (f (p + s.count)) x (omega (arith, s.within)) s.good refl s.lacks

-- a read from p on of old, with its answer r and what it leaves, new
pub record Read (f : ℕ → Cell) (p : ℕ) (old : List ℕ) (r : Result Unit Lack) (new : List ℕ) : Type 0 where
  pub answered : r ≡ answer f p (length old)
  pub left : new ≡ filled f p old

-- a read that is refused changes nothing
pub filled_err : (f : ℕ → Cell) (p : ℕ) (old : List ℕ) (x : Lack) → answer f p (length old) ≡ Err x → filled f p old ≡ old
filled_err f p old x e = rw e

-- what a read that is answered leaves at a place of the buffer
pub filled_at : (f : ℕ → Cell) (p : ℕ) (old : List ℕ) (k : ℕ) → answer f p (length old) ≡ Ok tt → k < length old → get_or (filled f p old) k 0 ≡ value (f (p + k))
filled_at f p old k e h =
    ap (λ r. get_or (instead r (map (λ j. value (f (p + j))) (range_with_len 0 (length old))) old) k 0) e
    ∙ get_or-map-range_with_len (λ j. value (f (p + j))) 0 (length old) k k 0 h (omega arith)

-- a buffer that has each byte of the places is what such a read leaves
pub fills : (f : ℕ → Cell) (p : ℕ) (old new : List ℕ) → answer f p (length old) ≡ Ok tt → length new ≡ length old
    → ((k : ℕ) → k < length old → get_or new k 0 ≡ value (f (p + k))) → new ≡ filled f p old
fills f p old new e n h = rw e (fill_by_all (λ k. value (f (p + k))) new (length old) 0 n h)

-- stores that have the same at each place of a read leave the same
pub filled_same : (f g : ℕ → Cell) (p : ℕ) (old : List ℕ) → ((k : ℕ) → k < length old → f (p + k) ≡ g (p + k)) → filled f p old ≡ filled g p old
filled_same f g p old h =
    let n = length old in
    let bytes : map (λ k. value (f (p + k))) (range_with_len 0 n) ≡ map (λ k. value (g (p + k))) (range_with_len 0 n) =
    fill_by_all (λ k. value (g (p + k))) (map (λ k. value (f (p + k))) (range_with_len 0 n)) n 0 (length-map-range_with_len (λ k. value (f (p + k))) 0 n)
    (λ k l. get_or-map-range_with_len (λ j. value (f (p + j))) 0 n k k 0 l (omega arith) ∙ ap value (h k l)) in
    ap (λ r. instead r (map (λ k. value (f (p + k))) (range_with_len 0 n)) old) (answer_same f g p p n refl h)
    ∙ ap (λ b. instead (answer g p n) b old) bytes

-- a byte stands below the end of all stores
pub byte_below : (f : ℕ → Cell) (q b : ℕ) → capped f q ≡ byte b → q < 2 ^ 48
byte_below f q b e =
    ⊎_elim (λ h. omega (arith, h.1)) (λ h. let m : capped f q ≡ missing = rw h.0 in let z : ◌≡◌ {A = ℕ} 0 1 = cc in omega arith) (leb_tells (suc q) (2 ^ 48))
