-- The written header is a header of the grammar, and a store that begins with it is read as its numbers.
use Rattle.std.proofs.Common.{◌≡◌, ℕ, zero, suc, ◌+◌, ◌-◌, ◌≤◌, List, [], ◌∷◌, ◌++◌, length, Ok, decimal, sym, ap, ◌∙◌, subst, append_assoc, add-zero, arith, length-append}
use Rattle.std.proofs.lemmas.Fmt.{length-decimal-le}
use Rattle.std.proofs.lemmas.List.{get_or_append_left, get_or-append-add}
use Rattle.store.specs.Cells.{Cell, byte}
use Rattle.source.specs.Front.{available, more}
use Rattle.source.specs.Grammar.{Gap, IsHeader}
use Rattle.source.specs.Grammar as grammar
use Rattle.source.specs.Header as reader
use Rattle.source.proofs.Accepting.{accepts}
use Rattle.writer.specs.File.{field, header}
use Rattle.writer.proofs.Heads.{length-header}
use Rattle.reread.specs.Trips.{Holds}
use Rattle.reread.proofs.Numbers.{number_decimal}

-- fields behind one another, as the grammar groups them
grouped : (w h m : ℕ) → decimal w ++ (32 ∷ (decimal h ++ (10 ∷ (decimal m ++ (10 ∷ []))))) ≡ field w 32 ++ (field h 10 ++ field m 10)
unfolding field
grouped w h m =
    sym (append_assoc (decimal w) (32 ∷ []) (field h 10 ++ field m 10) ∙ ap (λ t. decimal w ++ (32 ∷ t)) (append_assoc (decimal h) (10 ∷ []) (field m 10)))

pub is_header : (mark w h m : ℕ) → w ≤ 65535 → h ≤ 65535 → m ≤ 65535 → IsHeader mark w h m (header mark w h m)
unfolding header
is_header mark w h m p q r =
    let line : Gap (10 ∷ []) = grammar.gap grammar.newline grammar.none in
    let blank : Gap (32 ∷ []) = grammar.gap grammar.space grammar.none in
    subst (λ t. IsHeader mark w h m (80 ∷ mark ∷ (10 ∷ t))) (grouped w h m)
    (grammar.header line (number_decimal w (omega arith)) blank (number_decimal h (omega arith)) line (number_decimal m (omega arith)) grammar.newline)

pub header_short : (mark w h m : ℕ) → w ≤ 65535 → h ≤ 65535 → m ≤ 65535 → length (header mark w h m) ≤ 36
header_short mark w h m p q r =
    omega (arith, length-header mark w h m, length-decimal-le 5 w (omega arith) (omega arith) (omega arith), length-decimal-le 5 h (omega arith) (omega arith) (omega arith), length-decimal-le 5 m (omega arith) (omega arith) (omega arith))

-- bytes that stand from p on are the first that are available there
front : (at : ℕ → Cell) (p n : ℕ) (bytes : List ℕ) → length bytes ≤ n → Holds at p bytes → available at p n ≡ bytes ++ available at (p + length bytes) (n - length bytes)
unfolding available
front at p n [] l h = sym (ap (λ q. available at q (n - 0)) (add-zero p) ∙ ap (available at p) (let z : n - 0 ≡ n = omega arith in z))
front at p zero (b ∷ bs) l h = absurd (omega arith)
front at p (suc n) (b ∷ bs) l h =
    let here : at p ≡ byte b = ap at (sym (add-zero p)) ∙ h 0 (omega arith) in
    let later : Holds at (p + 1) bs = λ k m. let z : p + 1 + k ≡ p + suc k = omega arith in ap at z ∙ h (suc k) (omega arith) in
    let z : p + 1 + length bs ≡ p + suc (length bs) = omega arith in
    let y : n - length bs ≡ suc n - suc (length bs) = omega arith in
    ap (λ x. more x (available at (p + 1) n)) here
    ∙ ap (λ t. b ∷ t) (front at (p + 1) n bs (omega arith) later ∙ ap (λ q. bs ++ available at q (n - length bs)) z ∙ ap (λ q. bs ++ available at (p + suc (length bs)) q) y)

pub holds_left : (at : ℕ → Cell) (p : ℕ) (a b : List ℕ) → Holds at p (a ++ b) → Holds at p a
holds_left at p a b h k l = h k (omega (arith, length-append a b)) ∙ ap byte (get_or_append_left a b 0 k l)

-- a store that begins with a written header is read as its numbers
pub header_reads : (mark w h m : ℕ) (at : ℕ → Cell) (n : ℕ) → 36 ≤ n → 1 ≤ w → w ≤ 65535 → 1 ≤ h → h ≤ 65535 → 1 ≤ m → m ≤ 65535 → Holds at 0 (header mark w h m)
    → reader.header_of mark (available at 0 n) ≡ Ok (record { width = w; height = h; maxval = m; length = length (header mark w h m) })
header_reads mark w h m at n l w1 w2 h1 h2 m1 m2 holds =
    let s = header_short mark w h m w2 h2 m2 in
    ap (reader.header_of mark) (front at 0 n (header mark w h m) (omega arith) holds)
    ∙ accepts mark w h m (available at (0 + length (header mark w h m)) (n - length (header mark w h m))) (is_header mark w h m w2 h2 m2) (w1, w2) (h1, h2) (m1, m2)

pub holds_right : (at : ℕ → Cell) (a b : List ℕ) → Holds at 0 (a ++ b) → Holds at (length a) b
holds_right at a b h k l =
    let z : length a + k ≡ 0 + (length a + k) = omega arith in
    ap at z ∙ h (length a + k) (omega (arith, length-append a b)) ∙ ap byte (get_or-append-add a b k 0)
