-- How a read of a store's first places finds the bytes that it begins with.
use Rattle.std.proofs.Common.{◌≡◌, ℕ, zero, suc, ◌+◌, ◌<◌, ◌≤◌, List, [], ◌∷◌, length, get_or, take, Option, Some, None, Ok, Err, sym, refl, ap, ◌∙◌, ⊎_elim, subst, add-zero, zero-add, arith}
use Rattle.std.proofs.lemmas.Bool.{cases_lt}
use Rattle.std.proofs.lemmas.List.{get_or-take, length-take}
use Rattle.store.specs.declared.lack.Lack.{Lack}
use Rattle.store.specs.Cells.{Cell, byte, missing, unread}
use Rattle.store.specs.Reads.{answer, before, value}
use Rattle.store.proofs.Answering.{answer_each, fills, stop, Stop}
use Rattle.source.specs.Loading.{Had, Misses}
use Rattle.source.specs.Front.{FirstLack, HasByte, available, more}

-- xs are the bytes from p on, up to n of them, that end at the first place that has none
record Run (f : ℕ → Cell) (p n : ℕ) (xs : List ℕ) : Type 0 where
  within : length xs ≤ n
  bytes : (k : ℕ) → k < length xs → f (p + k) ≡ byte (get_or xs k 0)
  lacks : length xs < n → HasByte (f (p + length xs)) → ⊥

run_here : (f : ℕ → Cell) (p n : ℕ) → (HasByte (f p) → ⊥) → Run f p n []
run_here f p n h = record { within = omega arith; bytes = λ k l. absurd (omega arith); lacks = λ _ b. h (subst (λ q. HasByte (f q)) (add-zero p) b) }

bytes_more : (f : ℕ → Cell) (p n b : ℕ) (xs : List ℕ) → byte b ≡ f p → Run f (p + 1) n xs → (k : ℕ) → k < suc (length xs) → f (p + k) ≡ byte (get_or (b ∷ xs) k 0)
bytes_more f p n b xs e r zero l = ap f (add-zero p) ∙ sym e
bytes_more f p n b xs e r (suc k) l = let q : p + suc k ≡ p + 1 + k = omega arith in ap f q ∙ r.bytes k (omega arith)

run_more : (f : ℕ → Cell) (p n : ℕ) (x : Cell) (xs : List ℕ) → x ≡ f p → Run f (p + 1) n xs → Run f p (suc n) (more x xs)
run_more f p n (byte b) xs e r =
    let q : p + suc (length xs) ≡ p + 1 + length xs = omega arith in
    record { within = omega (arith, r.within); bytes = bytes_more f p n b xs e r; lacks = λ l h. r.lacks (omega arith) (subst (λ q. HasByte (f q)) q h) }
run_more f p n missing xs e r = run_here f p (suc n) (λ h. let i = h.1 in let z : ◌≡◌ {A = ℕ} 0 1 = cc in omega arith)
run_more f p n unread xs e r = run_here f p (suc n) (λ h. let i = h.1 in let z : ◌≡◌ {A = ℕ} 0 1 = cc in omega arith)

run_of : (f : ℕ → Cell) (p n : ℕ) → Run f p n (available f p n)
unfolding available
run_of f p zero = record { within = omega arith; bytes = λ k l. absurd (omega arith); lacks = λ l. absurd (omega arith) }
run_of f p (suc n) = run_more f p n (f p) (available f (p + 1) n) refl (run_of f (p + 1) n)

-- no more bytes than were asked for
pub available_long : (f : ℕ → Cell) (p n : ℕ) → length (available f p n) ≤ n
available_long f p n = (run_of f p n).within

pub first_lack : (f : ℕ → Cell) (n p : ℕ) → p ≡ length (available f 0 n) → FirstLack f n p
first_lack f n p e =
    let r = run_of f 0 n in
    record {
      within = omega (arith, r.within);
      bytes = λ k l. subst (λ q. HasByte (f q)) (zero-add k) (get_or (available f 0 n) k 0, r.bytes k (omega arith));
      lacks = λ l h. r.lacks (omega arith) (subst (λ q. HasByte (f q)) (e ∙ sym (zero-add (length (available f 0 n)))) h);
    }

-- a read that is answered has them all
run_all : (f : ℕ → Cell) (p n : ℕ) (xs : List ℕ) → Run f p n xs → answer f p n ≡ Ok tt → length xs ≡ n
run_all f p n xs r e = ⊎_elim (λ l. absurd (r.lacks l (answer_each f p n (length xs) l e))) (λ l. omega (arith, r.within)) (cases_lt (length xs) n)

no_byte : (x : Cell) (b p : ℕ) (y : Lack) → x ≡ byte b → before x p (Ok tt) ≡ Err y → ⊥
no_byte (byte c) b p y e h = let z : ◌≡◌ {A = ℕ} 0 1 = cc in omega arith
no_byte missing b p y e h = let z : ◌≡◌ {A = ℕ} 0 1 = cc in omega arith
no_byte unread b p y e h = let z : ◌≡◌ {A = ℕ} 0 1 = cc in omega arith

-- one that is refused has those before the place that it names
run_stop : (f : ℕ → Cell) (p n : ℕ) (x : Lack) (xs : List ℕ) → Run f p n xs → (s : Stop f p n x) → length xs ≡ s.count
run_stop f p n x xs r s =
    ⊎_elim (λ l. absurd (r.lacks (omega (arith, s.within)) (answer_each f p s.count (length xs) l s.good)))
    (λ h. ⊎_elim (λ l. absurd (no_byte (f (p + s.count)) (get_or xs s.count 0) (p + s.count) x (r.bytes s.count l) (s.lacks (Ok tt)))) (λ i. omega arith)
    (cases_lt s.count (length xs)))
    (cases_lt (length xs) s.count)

had_long : (f : ℕ → Cell) (m n : ℕ) (xs : List ℕ) (x : Option Lack) → Run f 0 m xs → answer f 0 n ≡ Ok tt → Misses f 0 m n x → length xs ≡ n
had_long f m n xs None r t e = run_all f 0 m xs r (ap (answer f 0) (sym e) ∙ t) ∙ sym e
had_long f m n xs (Some x) r t e = let s = stop f 0 m x e.0 in omega (arith, run_stop f 0 m x xs r s, s.place, e.1)

-- the bytes that a read had, if it began at the first place
pub front_had : (f : ℕ → Cell) (m n : ℕ) (new : List ℕ) (x : Option Lack) → length new ≡ m → Had f 0 m new n x → take n new ≡ available f 0 m
front_had f m n new x l d =
    let r = run_of f 0 m in
    let c : length (available f 0 m) ≡ n = had_long f m n (available f 0 m) x r d.there d.misses in
    let t : length (take n new) ≡ n = simp length-take (omega (arith, d.within)) in
    let a : answer f 0 (length (take n new)) ≡ Ok tt = ap (answer f 0) t ∙ d.there in
    fills f 0 (take n new) (take n new) a refl (λ k h. get_or-take n new k 0 (omega arith) ∙ d.bytes k (omega arith))
    ∙ sym (fills f 0 (take n new) (available f 0 m) a (omega arith) (λ k h. sym (ap value (r.bytes k (omega arith)))))
