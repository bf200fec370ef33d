-- Reading the bytes of pixels.
use Rattle.std.proofs.Common.{◌≡◌, ℕ, ◌+◌, ◌-◌, ◌*◌, ◌/◌, ◌%◌, ◌<◌, ◌≤◌, List, ◌++◌, length, get_or, Option, Some, None, Ok, Err, sym, ap, ◌∙◌, subst, mul_comm, arith}
use native.Mathlib.Nat.{div-add-mod}
use Rattle.std.proofs.lemmas.List.{get_or_append_left}
use Rattle.std.proofs.Math.Nat.{mul-div_cancel}
use Rattle.std.proofs.lemmas.Nat.{div_below, mod_below}
use Rattle.std.specs.Option.{option_map}
use Rattle.store.specs.Cells.{Cell}
use Rattle.store.specs.Reads.{answer, before, filled, value, place_of}
use Rattle.store.specs.declared.lack.Lack.{Lack}
use Rattle.store.proofs.Answering.{answer_front, answer_past, answer_at, filled_at, stop, Stop}
use Rattle.picture.specs.declared.fault.Cause.{Cause}
use Rattle.source.specs.Files.{lack_cause, lacking}
use Rattle.source.specs.Loading.{Had, Lacks, Loaded, Misses}

-- the bytes behind a read that was answered
pub read-bytes : (at : ℕ → Cell) (p : ℕ) (old part rest : List ℕ) (n : ℕ) → length old ≡ n → length part ≡ length old → Ok tt ≡ answer at p (length old) → part ≡ filled at p old
    → (j : ℕ) → j < n → get_or (part ++ rest) j 0 ≡ value (at (p + j))
read-bytes at p old part rest n e l a f j h =
    get_or_append_left part rest 0 j (omega arith) ∙ ap (λ x. get_or x j 0) f ∙ filled_at at p old j (sym a) (omega arith)

-- the pixel that lacks a byte, and that those before it lack none
pub record Lacked (at : ℕ → Cell) (p step n : ℕ) (x : Lack) (r : ℕ) : Type 0 where
  pub within : r < n
  pub bytes : r * step ≤ n * step
  pub there : answer at p (r * step) ≡ Ok tt
  pub lacks : lacking (answer at (p + r * step) step) ≡ Some (lack_cause x)

split : (c step : ℕ) → 1 ≤ step → (c / step * step ≤ c) × (c < c / step * step + step)
split c step h =
    let m : c % step < step = mod_below c step (omega arith) in
    (omega (arith, div-add-mod c step, mul_comm step (c / step)), omega (arith, div-add-mod c step, mul_comm step (c / step)))

-- by the count of places before the one that lacks
lacked_by : (at : ℕ → Cell) (p step n : ℕ) (x : Lack) (s : Stop at p (n * step) x) → 1 ≤ step → Lacked at p step n x (s.count / step)
lacked_by at p step n x s h =
    let c = s.count in
    let r = c / step in
    let w = split c step h in
    let d = c - r * step in
    let less : c < n * step = s.within in
    let below : r < n = div_below c step n (omega arith) less in
    let e : r * step + d ≡ c = omega (arith, w.0) in
    let q : p + r * step + d ≡ p + c = omega (arith, w.0) in
    let t : answer at p (r * step) ≡ Ok tt = answer_front at p (r * step) d (ap (answer at p) e ∙ s.good) in
    let u : answer at (p + r * step) d ≡ Ok tt = sym (answer_past at p (r * step) d t) ∙ ap (answer at p) e ∙ s.good in
    let v : answer at (p + r * step) step ≡ Err x =
    answer_at at (p + r * step) step d (omega (arith, w.1)) u
    ∙ ap (λ z. before (at z) z (answer at (p + r * step + d + 1) (step - d - 1))) q ∙ s.lacks (answer at (p + r * step + d + 1) (step - d - 1)) in
    record { within = below; bytes = omega (arith, w.0, less); there = t; lacks = ap lacking v }

lacked : (at : ℕ → Cell) (p step n : ℕ) (x : Lack) → 1 ≤ step → Err x ≡ answer at p (n * step) → (p ≤ place_of x) × Lacked at p step n x ((place_of x - p) / step)
lacked at p step n x h e =
    let s = stop at p (n * step) x (sym e) in
    let q : s.count ≡ place_of x - p = omega (arith, s.place) in
    (omega (arith, s.place), subst (λ c. Lacked at p step n x (c / step)) q (lacked_by at p step n x s h))

-- a read that was refused had the bytes before the place that it names
pub refused_at : (at : ℕ → Cell) (p m q : ℕ) (x : Lack) → Err x ≡ answer at p m → q ≡ place_of x → (p ≤ q) × (q - p ≤ m) × (answer at p (q - p) ≡ Ok tt)
refused_at at p m q x e h =
    let s = stop at p m x (sym e) in
    let k : s.count ≡ q - p = omega (arith, s.place) in
    (omega (arith, s.place), omega (arith, s.within), ap (answer at p) (sym k) ∙ s.good)

pub had_all : (at : ℕ → Cell) (p : ℕ) (old new : List ℕ) → length new ≡ length old → Ok tt ≡ answer at p (length old) → new ≡ filled at p old
    → Had at p (length old) new (length new) None
had_all at p old new l a f =
    record {
      within = omega arith;
      there = ap (answer at p) l ∙ sym a;
      bytes = λ j h. ap (λ x. get_or x j 0) f ∙ filled_at at p old j (sym a) (omega arith);
      misses = l;
    }

pub had_some : (at : ℕ → Cell) (p m q : ℕ) (x : Lack) (old part rest : List ℕ) → Err x ≡ answer at p m → q ≡ place_of x
    → length old ≡ q - p → length part ≡ length old → part ≡ filled at p old → Had at p m (part ++ rest) (q - p) (Some x)
had_some at p m q x old part rest e h eo l f =
    let k = refused_at at p m q x e h in
    let a : Ok tt ≡ answer at p (length old) = sym (ap (answer at p) eo ∙ k.2) in
    record {
      within = k.1;
      there = k.2;
      bytes = read-bytes at p old part rest (q - p) eo l a f;
      misses = (sym e, omega (arith, k.0));
    }

lacks_by : (at : ℕ → Cell) (p step n m r : ℕ) (x : Option Lack) (c : Option Cause) → 1 ≤ step → m ≡ n * step → Misses at p m r x → c ≡ option_map lack_cause x
    → (r / step ≤ n) × Lacks at p step n (r / step) c
lacks_by at p step n m r None c h em e ec =
    let q : r / step ≡ n = ap (λ z. z / step) (e ∙ em) ∙ mul-div_cancel n (omega arith) in
    (omega arith, subst (Lacks at p step n (r / step)) (sym ec) q)
lacks_by at p step n m r (Some x) c h em e ec =
    let k = (lacked at p step n x h (sym e.0 ∙ ap (answer at p) em)).1 in
    let q : place_of x - p ≡ r = omega (arith, e.1) in
    let s : Lacked at p step n x (r / step) = subst (λ z. Lacked at p step n x (z / step)) q k in
    (omega (arith, s.within), subst (Lacks at p step n (r / step)) (sym ec) (s.within, s.lacks))

-- the bytes of whole pixels among those that were read
pub loaded_by : (at : ℕ → Cell) (p step n m r : ℕ) (part rest : List ℕ) (x : Option Lack) (c : Option Cause) → 1 ≤ step → m ≡ n * step → length part ≡ m
    → Had at p m part r x → c ≡ option_map lack_cause x → Loaded at p step n (part ++ rest) (r / step) c
loaded_by at p step n m r part rest x c h em l d ec =
    let w = split r step h in
    let z : r / step * step + (r - r / step * step) ≡ r = omega (arith, w.0) in
    let t : answer at p (r / step * step) ≡ Ok tt = answer_front at p (r / step * step) (r - r / step * step) (ap (answer at p) z ∙ d.there) in
    let b : (j : ℕ) → j < r / step * step → get_or (part ++ rest) j 0 ≡ value (at (p + j)) =
    λ j k. get_or_append_left part rest 0 j (omega (arith, w.0, d.within)) ∙ d.bytes j (omega (arith, w.0)) in
    let u = lacks_by at p step n m r x c h em d.misses ec in
    record { within = u.0; there = t; bytes = b; lacks = u.1 }
