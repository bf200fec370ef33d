-- A number in decimal is the grammar's number.
use Rattle.std.proofs.Common.{◌≡◌, ℕ, ◌+◌, ◌-◌, ◌*◌, ◌/◌, ◌%◌, ◌^◌, ◌<◌, ◌≤◌, List, [], ◌∷◌, ◌++◌, decimal, refl, ◌∙◌, arith}
use Rattle.std.proofs.lemmas.Nat.{div-add-mod', mod_below}
use Rattle.std.proofs.lemmas.Fmt.{decimal_by_steps, decimal_nonempty}
use Rattle.source.specs.Grammar.{Digits, Number, worth}

worth_push : (v : ℕ) (ds : List ℕ) (c : ℕ) → worth v (ds ++ (c ∷ [])) ≡ 10 * worth v ds + (c - 48)
worth_push v [] c = refl
worth_push v (d ∷ ds) c = worth_push (10 * v + (d - 48)) ds c

digits_push : (ds : List ℕ) (c : ℕ) → Digits ds → 48 ≤ c → c ≤ 57 → Digits (ds ++ (c ∷ []))
digits_push [] c h p q = ((p, q), tt)
digits_push (d ∷ ds) c h p q = (h.0, digits_push ds c h.1 p q)

abbrev Reads : ℕ → List ℕ → Type 0
Reads n ds = Digits ds × (worth 0 ds ≡ n)

one : (n : ℕ) → n < 10 → Reads n ((48 + n) ∷ [])
one n h = (((omega arith, omega arith), tt), omega arith)

more : (n : ℕ) (ds : List ℕ) → 10 ≤ n → Reads (n / 10) ds → Reads n (ds ++ ((48 + n % 10) ∷ []))
more n ds h r =
    let below : n % 10 < 10 = mod_below n 10 (omega arith) in
    (digits_push ds (48 + n % 10) r.0 (omega arith) (omega arith), worth_push 0 ds (48 + n % 10) ∙ omega (arith, r.1, div-add-mod' n 10))

pub number_decimal : (n : ℕ) → n < 2 ^ 64 → Number n (decimal n)
number_decimal n h =
    let r = decimal_by_steps Reads one more n h in
    record { some = decimal_nonempty n h; digits = r.0; value = r.1 }
