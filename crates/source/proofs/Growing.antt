-- The parts of the grammar, with one more byte at their end.
use Rattle.std.proofs.Common.{◌≡◌, ℕ, ◌+◌, ◌-◌, ◌*◌, ◌≤◌, List, [], ◌∷◌, ◌++◌, sym, refl, ap, ◌∙◌, subst, append_assoc, arith, length-append}
use Rattle.source.specs.Grammar.{Blank, Digits, Gap, Number, Text, White, worth, none, white, comment, gap}

blank_append : {xs ys : List ℕ} → Blank xs → Blank ys → Blank (xs ++ ys)
blank_append none e = e
blank_append (white x d) e = white x (blank_append d e)
blank_append {ys = ys} (comment text {bs} t d) e = subst (λ l. Blank (35 ∷ l)) (sym (append_assoc text (10 ∷ bs) ys)) (comment text t (blank_append d e))

gap_append : {xs ys : List ℕ} → Gap xs → Blank ys → Gap (xs ++ ys)
gap_append (gap x d) e = gap x (blank_append d e)

pub gap_white : {xs : List ℕ} {b : ℕ} → Gap xs → White b → Gap (xs ++ (b ∷ []))
gap_white g x = gap_append g (white x none)

pub gap_comment : {xs : List ℕ} (text : List ℕ) → Gap xs → Text text → Gap (xs ++ (35 ∷ (text ++ (10 ∷ []))))
gap_comment text g t = gap_append g (comment text t none)

pub text_more : (text : List ℕ) (b : ℕ) → Text text → (b ≡ 10 → ⊥) → Text (text ++ (b ∷ []))
text_more [] b t n = (n, tt)
text_more (x ∷ text) b t n = (t.0, text_more text b t.1 n)

digits_more : (ds : List ℕ) (b : ℕ) → Digits ds → 48 ≤ b → b ≤ 57 → Digits (ds ++ (b ∷ []))
digits_more [] b d l u = ((l, u), tt)
digits_more (x ∷ ds) b d l u = (d.0, digits_more ds b d.1 l u)

worth_more : (v : ℕ) (ds : List ℕ) (b : ℕ) → worth v (ds ++ (b ∷ [])) ≡ 10 * worth v ds + (b - 48)
worth_more v [] b = refl
worth_more v (x ∷ ds) b = worth_more (10 * v + (x - 48)) ds b

pub number_more : (v : ℕ) (ds : List ℕ) (b : ℕ) → Number v ds → 48 ≤ b → b ≤ 57 → Number (10 * v + (b - 48)) (ds ++ (b ∷ []))
number_more v ds b n l u =
    record {
      some = simp length-append (omega arith);
      digits = digits_more ds b n.digits l u;
      value = worth_more 0 ds b ∙ ap (λ x. 10 * x + (b - 48)) n.value;
    }

pub number_one : (b : ℕ) → 48 ≤ b → b ≤ 57 → Number (b - 48) (b ∷ [])
number_one b l u = record { some = omega arith; digits = ((l, u), tt); value = let e : 10 * 0 + (b - 48) ≡ b - 48 = omega arith in e }
