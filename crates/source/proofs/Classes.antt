-- The classes of bytes.
use Rattle.std.proofs.Common.{◌≡◌, ℕ, ◌-◌, ◌≤◌, true, ◌&&◌, ◌||◌, eqb, leb, sym, subst, ⊎_elim}
use Rattle.std.proofs.lemmas.Bool.{and_parts, leb-true, eqb-true, eqb-false, both_ways, cond_both}
use Rattle.std.proofs.lemmas.Bool.Decides.{eqb_tells}
use Rattle.source.specs.declared.reader.Class.{Class}
use Rattle.source.specs.declared.reader.Class.TheVariants.{Newline, White, Hash, Digit, Other}
use Rattle.source.specs.Header.{class_of}
use Rattle.source.specs.Grammar as grammar

-- a byte of a class
pub data Of (b : ℕ) : Class → Type 0 where
  newline : b ≡ 10 → Of b Newline
  white : (b ≡ 10 → ⊥) → grammar.White b → Of b White
  hash : b ≡ 35 → Of b Hash
  digit : 48 ≤ b → b ≤ 57 → Of b (Digit (b - 48))
  other : (b ≡ 10 → ⊥) → Of b Other

a_white : (b : ℕ) → (eqb b 32 || eqb b 9 || eqb b 13) ≡ true → grammar.White b
a_white b e =
    ⊎_elim (λ h. subst grammar.White (sym h.1) grammar.space)
    (λ p. ⊎_elim (λ h. subst grammar.White (sym h.1) grammar.tab)
    (λ q. ⊎_elim (λ h. subst grammar.White (sym h.1) grammar.return)
    (λ r. absurd (both_ways (eqb b 32 || eqb b 9 || eqb b 13) (rw (p.0, q.0, r.0)) e)) (eqb_tells b 13)) (eqb_tells b 9)) (eqb_tells b 32)

pub class : (b : ℕ) → Of b (class_of b)
class b =
    cond_both (eqb b 10) Newline _ (Of b) (λ e. newline (eqb-true b 10 e))
    (λ n. cond_both (eqb b 32 || eqb b 9 || eqb b 13) White _ (Of b) (λ e. white (eqb-false b 10 n) (a_white b e))
    (λ _. cond_both (eqb b 35) Hash _ (Of b) (λ e. hash (eqb-true b 35 e))
    (λ _. cond_both (leb 48 b && leb b 57) (Digit (b - 48)) Other (Of b)
    (λ e. let a = and_parts (leb 48 b) (leb b 57) e in digit (leb-true 48 b a.0) (leb-true b 57 a.1))
    (λ _. other (eqb-false b 10 n)))))

pub ten : (b : ℕ) → b ≡ 10 → grammar.White b
ten b e = subst grammar.White (sym e) grammar.newline
