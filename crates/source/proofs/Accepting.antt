-- What the grammar has, the reader accepts, or refuses for a number.
use Rattle.std.proofs.Common.{◌≡◌, ℕ, suc, ◌+◌, ◌-◌, ◌*◌, ◌≤◌, min, true, eqb, leb, List, [], ◌∷◌, ◌++◌, length, Ok, Err, Result, sym, refl, ap, ◌∙◌, subst, append_assoc, arith, length-append}
use Rattle.std.proofs.lemmas.Bool.{and_from, and_parts, le-leb, leb-true, cond-true, cond_both, eq-eqb}
use Rattle.std.proofs.lemmas.Bool.Decides.{nat_tests}
use Rattle.source.specs.declared.header.Header.{Header}
use Rattle.source.specs.declared.header.HeaderError.{HeaderError}
use Rattle.source.specs.declared.header.HeaderError.TheVariants as error
use Rattle.source.specs.declared.reader.Class.{Class}
use Rattle.source.specs.declared.reader.Class.TheVariants.{Newline, White, Hash, Digit, Other}
use Rattle.source.specs.declared.reader.Field.{Field}
use Rattle.source.specs.declared.reader.Field.TheVariants.{Width, Height, Maxval}
use Rattle.source.specs.declared.reader.State.{State}
use Rattle.source.specs.declared.reader.State.TheVariants.{Marked, Gap, Comment, Number}
use Rattle.source.specs.declared.reader.Reader.{Reader}
use Rattle.source.specs.Header.{allowed, class_of, header_of, judged, kept, longer, next, run, start, to}
use Rattle.source.specs.Grammar as grammar
use Rattle.source.specs.Grammar.{Blank, Digits, IsHeader, Text, worth}
use Rattle.source.specs.Limits.{Allowed, limit_of}
use Rattle.source.specs.Reading.{Spoiled, at_width, at_height, at_maxval}
use Rattle.source.proofs.Running.{on}

abbrev pub at : State → ℕ → ℕ → ℕ → Reader
at s w h m = record { state = s; width = w; height = h; maxval = m }

-- a number as the reader has it
abbrev pub sat : Field → ℕ → ℕ
sat f v = min v (limit_of f + 1)

pub nine : (f : Field) → 9 ≤ limit_of f + 1
nine Width = omega arith
nine Height = omega arith
nine Maxval = omega arith

one : (r : Reader) (n b : ℕ) (bs : List ℕ) (c : Class) → class_of b ≡ c → run r n (b ∷ bs) ≡ on n bs (next n r.state c r)
unfolding run
one r n b bs c e = ap (λ x. on n bs (next n r.state x r)) e

-- the classes
digit_class : (b : ℕ) → 48 ≤ b → b ≤ 57 → class_of b ≡ Digit (b - 48)
digit_class b l u = grind (arith, nat_tests)

not_newline : (b : ℕ) → (b ≡ 10 → ⊥) → class_of b ≡ Newline → ⊥
not_newline b ne e = ne (grind (arith, nat_tests))

within_comment : (n : ℕ) (f : Field) (r : Reader) (c : Class) → (c ≡ Newline → ⊥) → next n (Comment f) c r ≡ to (Comment f) r
within_comment n f r Newline h = absurd (h refl)
within_comment n f r White h = refl
within_comment n f r Hash h = refl
within_comment n f r (Digit d) h = refl
within_comment n f r Other h = refl

white_mark : (w h m n : ℕ) {b : ℕ} → grammar.White b → (bs : List ℕ) → run (at Marked w h m) n (b ∷ bs) ≡ run (at (Gap Width) w h m) (n + 1) bs
unfolding run
white_mark w h m n grammar.newline bs = refl
white_mark w h m n grammar.space bs = refl
white_mark w h m n grammar.tab bs = refl
white_mark w h m n grammar.return bs = refl

module _ (f : Field) (w h m : ℕ) where
  white_gap : (n : ℕ) {b : ℕ} → grammar.White b → (bs : List ℕ) → run (at (Gap f) w h m) n (b ∷ bs) ≡ run (at (Gap f) w h m) (n + 1) bs
  unfolding run
  white_gap n grammar.newline bs = refl
  white_gap n grammar.space bs = refl
  white_gap n grammar.tab bs = refl
  white_gap n grammar.return bs = refl

  white_number : (v n : ℕ) {b : ℕ} → grammar.White b → (bs : List ℕ) → run (at (Number f v) w h m) n (b ∷ bs) ≡ on n bs (judged n f v (at (Number f v) w h m))
  unfolding run
  white_number v n grammar.newline bs = refl
  white_number v n grammar.space bs = refl
  white_number v n grammar.tab bs = refl
  white_number v n grammar.return bs = refl

  hash_gap : (n : ℕ) (bs : List ℕ) → run (at (Gap f) w h m) n (35 ∷ bs) ≡ run (at (Comment f) w h m) (n + 1) bs
  unfolding run
  hash_gap n bs = refl

  newline_comment : (n : ℕ) (bs : List ℕ) → run (at (Comment f) w h m) n (10 ∷ bs) ≡ run (at (Gap f) w h m) (n + 1) bs
  unfolding run
  newline_comment n bs = refl

  text_comment : (n b : ℕ) (bs : List ℕ) → (b ≡ 10 → ⊥) → run (at (Comment f) w h m) n (b ∷ bs) ≡ run (at (Comment f) w h m) (n + 1) bs
  text_comment n b bs ne =
      one (at (Comment f) w h m) n b bs (class_of b) refl ∙ ap (on n bs) (within_comment n f (at (Comment f) w h m) (class_of b) (not_newline b ne))

  digit_gap : (n b : ℕ) (bs : List ℕ) → 48 ≤ b → b ≤ 57 → run (at (Gap f) w h m) n (b ∷ bs) ≡ run (at (Number f (b - 48)) w h m) (n + 1) bs
  digit_gap n b bs l u = one (at (Gap f) w h m) n b bs (Digit (b - 48)) (digit_class b l u)

  digit_number : (v n b : ℕ) (bs : List ℕ) → 48 ≤ b → b ≤ 57 → run (at (Number f v) w h m) n (b ∷ bs) ≡ run (at (Number f (longer f v (b - 48))) w h m) (n + 1) bs
  digit_number v n b bs l u = one (at (Number f v) w h m) n b bs (Digit (b - 48)) (digit_class b l u)

  -- the parts of the grammar
  text : (xs : List ℕ) → Text xs → (n : ℕ) (rest : List ℕ) → run (at (Comment f) w h m) n (xs ++ (10 ∷ rest)) ≡ run (at (Gap f) w h m) (n + length xs + 1) rest
  text [] t n rest = newline_comment n rest ∙ ap (λ k. run (at (Gap f) w h m) k rest) (let e : n + 1 ≡ n + 0 + 1 = omega arith in e)
  text (b ∷ xs) t n rest =
      text_comment n b (xs ++ (10 ∷ rest)) t.0 ∙ text xs t.1 (n + 1) rest
      ∙ ap (λ k. run (at (Gap f) w h m) k rest) (let e : n + 1 + length xs + 1 ≡ n + suc (length xs) + 1 = omega arith in e)

  blank : {xs : List ℕ} → Blank xs → (n : ℕ) (rest : List ℕ) → run (at (Gap f) w h m) n (xs ++ rest) ≡ run (at (Gap f) w h m) (n + length xs) rest
  blank grammar.none n rest = ap (λ k. run (at (Gap f) w h m) k rest) (let e : n ≡ n + 0 = omega arith in e)
  blank (grammar.white {b} {bs} v d) n rest =
      white_gap n v (bs ++ rest) ∙ blank d (n + 1) rest
      ∙ ap (λ k. run (at (Gap f) w h m) k rest) (let e : n + 1 + length bs ≡ n + suc (length bs) = omega arith in e)
  blank (grammar.comment xs {bs} t d) n rest =
      ap (λ l. run (at (Gap f) w h m) n (35 ∷ l)) (append_assoc xs (10 ∷ bs) rest)
      ∙ hash_gap n (xs ++ (10 ∷ (bs ++ rest))) ∙ text xs t (n + 1) (bs ++ rest) ∙ blank d (n + 1 + length xs + 1) rest
      ∙ ap (λ k. run (at (Gap f) w h m) k rest)
      (let e : n + 1 + length xs + 1 + length bs ≡ n + suc (length (xs ++ (10 ∷ bs))) = simp length-append (omega arith) in e)

  digits : (ds : List ℕ) → Digits ds → (t n : ℕ) (rest : List ℕ)
      → run (at (Number f (sat f t)) w h m) n (ds ++ rest) ≡ run (at (Number f (sat f (worth t ds))) w h m) (n + length ds) rest
  digits [] d t n rest = ap (λ k. run (at (Number f (sat f t)) w h m) k rest) (let e : n ≡ n + 0 = omega arith in e)
  digits (b ∷ ds) d t n rest =
      digit_number (sat f t) n b (ds ++ rest) d.0.0 d.0.1
      ∙ ap (λ v. run (at (Number f v) w h m) (n + 1) (ds ++ rest))
      (let e : longer f (sat f t) (b - 48) ≡ sat f (10 * t + (b - 48)) = omega arith in e)
      ∙ digits ds d.1 (10 * t + (b - 48)) (n + 1) rest
      ∙ ap (λ k. run (at (Number f (sat f (worth (10 * t + (b - 48)) ds))) w h m) k rest)
      (let e : n + 1 + length ds ≡ n + suc (length ds) = omega arith in e)

  number : (v : ℕ) (ds : List ℕ) → grammar.Number v ds → (n : ℕ) (rest : List ℕ)
      → run (at (Gap f) w h m) n (ds ++ rest) ≡ run (at (Number f (sat f v)) w h m) (n + length ds) rest
  number v [] d n rest = absurd (omega (arith, d.some))
  number v (b ∷ ds) d n rest =
      let l : 48 ≤ b = d.digits.0.0 in
      let k : b ≤ 57 = d.digits.0.1 in
      let e : b - 48 ≡ sat f (10 * 0 + (b - 48)) = omega (arith, nine f) in
      digit_gap n b (ds ++ rest) l k
      ∙ ap (λ v. run (at (Number f v) w h m) (n + 1) (ds ++ rest)) e
      ∙ digits ds d.digits.1 (10 * 0 + (b - 48)) (n + 1) rest
      ∙ ap (λ v. run (at (Number f (sat f v)) w h m) (n + 1 + length ds) rest) d.value
      ∙ ap (λ k. run (at (Number f (sat f v)) w h m) k rest) (let e : n + 1 + length ds ≡ n + suc (length ds) = omega arith in e)

  -- a number behind the first byte of its gap
  spaced : (v n b : ℕ) {bs : List ℕ} (ds : List ℕ) → Blank bs → grammar.Number v ds → (rest : List ℕ)
      → run (at (Gap f) w h m) (n + 1) (bs ++ (ds ++ rest)) ≡ run (at (Number f (sat f v)) w h m) (n + length (b ∷ bs) + length ds) rest
  spaced v n b {bs} ds d e rest =
      blank d (n + 1) (ds ++ rest) ∙ number v ds e (n + 1 + length bs) rest
      ∙ ap (λ k. run (at (Number f (sat f v)) w h m) k rest) (let e : n + 1 + length bs + length ds ≡ n + suc (length bs) + length ds = omega arith in e)

-- what holds of a run that keeps a number holds of one that judges it
abbrev Pass : (Result Header HeaderError → Type 0) → Field → ℕ → Type 0
Pass P f v = (n : ℕ) (bs : List ℕ) (r : Reader) → P (on n bs (Ok (kept f (sat f v) r))) → P (on n bs (judged n f (sat f v) r))

module _ (P : Result Header HeaderError → Type 0) where
  behind_mark : (w n : ℕ) {g ds : List ℕ} → grammar.Gap g → grammar.Number w ds → (rest : List ℕ)
      → P (run (at (Number Width (sat Width w)) 0 0 0) (n + length g + length ds) rest) → P (run start n (g ++ (ds ++ rest)))
  behind_mark w n {ds = ds} (grammar.gap {b} {bs} x d) e rest =
      subst P (sym (white_mark 0 0 0 n x (bs ++ (ds ++ rest)) ∙ spaced Width 0 0 0 w n b ds d e rest))

  behind_width : (w h n : ℕ) {g ds : List ℕ} → grammar.Gap g → grammar.Number h ds → Pass P Width w → (rest : List ℕ)
      → P (run (at (Number Height (sat Height h)) (sat Width w) 0 0) (n + length g + length ds) rest) → P (run (at (Number Width (sat Width w)) 0 0 0) n (g ++ (ds ++ rest)))
  behind_width w h n {ds = ds} (grammar.gap {b} {bs} x d) e pass rest p =
      subst P (sym (white_number Width 0 0 0 (sat Width w) n x (bs ++ (ds ++ rest))))
      (pass n (bs ++ (ds ++ rest)) (at (Number Width (sat Width w)) 0 0 0) (subst P (sym (spaced Height (sat Width w) 0 0 h n b ds d e rest)) p))

  behind_height : (w h m n : ℕ) {g ds : List ℕ} → grammar.Gap g → grammar.Number m ds → Pass P Height h → (rest : List ℕ)
      → P (run (at (Number Maxval (sat Maxval m)) w (sat Height h) 0) (n + length g + length ds) rest) → P (run (at (Number Height (sat Height h)) w 0 0) n (g ++ (ds ++ rest)))
  behind_height w h m n {ds = ds} (grammar.gap {b} {bs} x d) e pass rest p =
      subst P (sym (white_number Height w 0 0 (sat Height h) n x (bs ++ (ds ++ rest))))
      (pass n (bs ++ (ds ++ rest)) (at (Number Height (sat Height h)) w 0 0) (subst P (sym (spaced Maxval w (sat Height h) 0 m n b ds d e rest)) p))

  behind_maxval : (w h m n : ℕ) {b : ℕ} → grammar.White b → Pass P Maxval m → (rest : List ℕ)
      → P (Ok (record { width = w; height = h; maxval = sat Maxval m; length = n + 1 })) → P (run (at (Number Maxval (sat Maxval m)) w h 0) n (b ∷ rest))
  behind_maxval w h m n x pass rest p =
      subst P (sym (white_number Maxval w h 0 (sat Maxval m) n x rest)) (pass n rest (at (Number Maxval (sat Maxval m)) w h 0) p)

pub marked : (mark : ℕ) (rest : List ℕ) → header_of mark (80 ∷ mark ∷ rest) ≡ run start 2 rest
marked mark rest = let q : eqb mark mark ≡ true = eq-eqb mark mark refl in rw q

bracketed : (a x b y c z e rest : List ℕ)
    → (a ++ (x ++ (b ++ (y ++ (c ++ (z ++ e)))))) ++ rest ≡ a ++ (x ++ (b ++ (y ++ (c ++ (z ++ (e ++ rest))))))
bracketed a x b y c z e rest = simp append_assoc

-- what holds of a header that is accepted holds of what the reader says of its bytes
carried : (P : Result Header HeaderError → Type 0) (mark w h m : ℕ) {front : List ℕ} (rest : List ℕ) → IsHeader mark w h m front
    → Pass P Width w → Pass P Height h → Pass P Maxval m
    → P (Ok (record { width = sat Width w; height = sat Height h; maxval = sat Maxval m; length = length front })) → P (header_of mark (front ++ rest))
carried P mark w h m rest (grammar.header {a} {x} {b} {y} {c} {z} {e} ga nx gb ny gc nz we) i j k p =
    let l : suc (suc (length (a ++ (x ++ (b ++ (y ++ (c ++ (z ++ (e ∷ []))))))))) ≡ 2 + length a + length x + length b + length y + length c + length z + 1
    = simp length-append (omega arith) in
    subst P (sym (marked mark ((a ++ (x ++ (b ++ (y ++ (c ++ (z ++ (e ∷ []))))))) ++ rest) ∙ ap (run start 2) (bracketed a x b y c z (e ∷ []) rest)))
    (behind_mark P w 2 ga nx (b ++ (y ++ (c ++ (z ++ (e ∷ rest)))))
    (behind_width P w h (2 + length a + length x) gb ny i (c ++ (z ++ (e ∷ rest)))
    (behind_height P (sat Width w) h m (2 + length a + length x + length b + length y) gc nz j (e ∷ rest)
    (behind_maxval P (sat Width w) (sat Height h) m (2 + length a + length x + length b + length y + length c + length z) we k rest
    (subst (λ n. P (Ok (record { width = sat Width w; height = sat Height h; maxval = sat Maxval m; length = n }))) l p)))))

-- numbers that are allowed are accepted
good : (f : Field) (v n : ℕ) (r : Reader) → Allowed f v → judged n f (sat f v) r ≡ Ok (kept f (sat f v) r)
good f v n r a =
    let e : allowed f (sat f v) ≡ true = and_from (leb 1 (sat f v)) (leb (sat f v) (limit_of f)) (le-leb 1 (sat f v) (omega (arith, a.0))) (le-leb (sat f v) (limit_of f) (omega (arith, a.1))) in
    cond-true (allowed f (sat f v)) (Ok (kept f (sat f v) r)) (Err (error.Number n)) e

same : (f : Field) (v : ℕ) → Allowed f v → sat f v ≡ v
same f v a = omega (arith, a.1)

passes : (x : Result Header HeaderError) (f : Field) (v : ℕ) → Allowed f v → Pass (λ y. y ≡ x) f v
passes x f v a n bs r i = ap (on n bs) (good f v n r a) ∙ i

pub accepts : (mark w h m : ℕ) {front : List ℕ} (rest : List ℕ) → IsHeader mark w h m front → Allowed Width w → Allowed Height h → Allowed Maxval m
    → header_of mark (front ++ rest) ≡ Ok (record { width = w; height = h; maxval = m; length = length front })
accepts mark w h m {front} rest is p q r =
    let x = Ok (record { width = w; height = h; maxval = m; length = length front }) in
    carried (λ y. y ≡ x) mark w h m rest is (passes x Width w p) (passes x Height h q) (passes x Maxval m r)
    (ap (λ v. Ok (record { width = v; height = sat Height h; maxval = sat Maxval m; length = length front })) (same Width w p)
    ∙ ap (λ v. Ok (record { width = w; height = v; maxval = sat Maxval m; length = length front })) (same Height h q)
    ∙ ap (λ v. Ok (record { width = w; height = h; maxval = v; length = length front })) (same Maxval m r))

-- whatever the numbers, no byte is refused, and what is accepted is no shorter
abbrev pub Fine : ℕ → Result Header HeaderError → Type 0
Fine n (Ok d) = d.length ≡ n
Fine n (Err error.Mark) = ⊥
Fine n (Err (error.End _)) = ⊥
Fine n (Err (error.Byte _)) = ⊥
Fine n (Err (error.Number _)) = Unit {0}

pass_fine : (k : ℕ) (f : Field) (v : ℕ) → Pass (Fine k) f v
pass_fine k f v n bs r p = cond_both (allowed f (sat f v)) (Ok (kept f (sat f v) r)) (Err (error.Number n)) (λ x. Fine k (on n bs x)) (λ _. p) (λ _. tt)

pub fine : (mark w h m : ℕ) {front : List ℕ} (rest : List ℕ) → IsHeader mark w h m front → Fine (length front) (header_of mark (front ++ rest))
fine mark w h m {front} rest is =
    carried (Fine (length front)) mark w h m rest is (pass_fine (length front) Width w) (pass_fine (length front) Height h) (pass_fine (length front) Maxval m) refl

-- a number that is not allowed is refused at the white byte behind it
bad : (f : Field) (v n : ℕ) (r : Reader) → (Allowed f v → ⊥) → judged n f (sat f v) r ≡ Err (error.Number n)
bad f v n r a =
    cond_both (allowed f (sat f v)) (Ok (kept f (sat f v) r)) (Err (error.Number n)) (λ x. x ≡ Err (error.Number n))
    (λ t.
    let c = and_parts (leb 1 (sat f v)) (leb (sat f v) (limit_of f)) t in
    let l : 1 ≤ sat f v = leb-true 1 (sat f v) c.0 in
    let u : sat f v ≤ limit_of f = leb-true (sat f v) (limit_of f) c.1 in
    absurd (a (omega arith, omega arith)))
    (λ _. refl)

judged_bad : (f : Field) (v w h m n k : ℕ) {b : ℕ} (rest : List ℕ) → (Allowed f v → ⊥) → grammar.White b → n ≡ k → run (at (Number f (sat f v)) w h m) n (b ∷ rest) ≡ Err (error.Number k)
judged_bad f v w h m n k rest a x e =
    white_number f w h m (sat f v) n x rest ∙ ap (on n rest) (bad f v n (at (Number f (sat f v)) w h m) a) ∙ ap (λ i. Err (error.Number i)) e

pub spoils : (mark : ℕ) {front : List ℕ} (rest : List ℕ) → Spoiled mark front → header_of mark (front ++ rest) ≡ Err (error.Number (length front - 1))
spoils mark rest (at_width {w} {a} {x} {e} ga nx wrong we) =
    let n = length (80 ∷ mark ∷ (a ++ (x ++ (e ∷ [])))) - 1 in
    let l : 2 + length a + length x ≡ n = simp length-append (omega arith) in
    let i : (a ++ (x ++ (e ∷ []))) ++ rest ≡ a ++ (x ++ (e ∷ rest)) = simp append_assoc in
    marked mark ((a ++ (x ++ (e ∷ []))) ++ rest) ∙ ap (run start 2) i
    ∙ behind_mark (λ y. y ≡ Err (error.Number n)) w 2 ga nx (e ∷ rest) (judged_bad Width w 0 0 0 (2 + length a + length x) n rest wrong we l)
spoils mark rest (at_height {w} {h} {a} {x} {b} {y} {e} ga nx p gb ny wrong we) =
    let n = length (80 ∷ mark ∷ (a ++ (x ++ (b ++ (y ++ (e ∷ [])))))) - 1 in
    let z = Err (error.Number n) in
    let l : 2 + length a + length x + length b + length y ≡ n = simp length-append (omega arith) in
    let i : (a ++ (x ++ (b ++ (y ++ (e ∷ []))))) ++ rest ≡ a ++ (x ++ (b ++ (y ++ (e ∷ rest)))) = simp append_assoc in
    marked mark ((a ++ (x ++ (b ++ (y ++ (e ∷ []))))) ++ rest) ∙ ap (run start 2) i
    ∙ behind_mark (λ r. r ≡ z) w 2 ga nx (b ++ (y ++ (e ∷ rest)))
    (behind_width (λ r. r ≡ z) w h (2 + length a + length x) gb ny (passes z Width w p) (e ∷ rest)
    (judged_bad Height h (sat Width w) 0 0 (2 + length a + length x + length b + length y) n rest wrong we l))
spoils mark rest (at_maxval {w} {h} {m} {a} {x} {b} {y} {c} {z} {e} ga nx p gb ny q gc nz wrong we) =
    let n = length (80 ∷ mark ∷ (a ++ (x ++ (b ++ (y ++ (c ++ (z ++ (e ∷ [])))))))) - 1 in
    let u = Err (error.Number n) in
    let l : 2 + length a + length x + length b + length y + length c + length z ≡ n = simp length-append (omega arith) in
    marked mark ((a ++ (x ++ (b ++ (y ++ (c ++ (z ++ (e ∷ []))))))) ++ rest) ∙ ap (run start 2) (bracketed a x b y c z (e ∷ []) rest)
    ∙ behind_mark (λ r. r ≡ u) w 2 ga nx (b ++ (y ++ (c ++ (z ++ (e ∷ rest)))))
    (behind_width (λ r. r ≡ u) w h (2 + length a + length x) gb ny (passes u Width w p) (c ++ (z ++ (e ∷ rest)))
    (behind_height (λ r. r ≡ u) (sat Width w) h m (2 + length a + length x + length b + length y) gc nz (passes u Height h q) (e ∷ rest)
    (judged_bad Maxval m (sat Width w) (sat Height h) 0 (2 + length a + length x + length b + length y + length c + length z) n rest wrong we l)))
