-- What the bytes are that a reader has taken.
use Rattle.std.proofs.Common.{◌≡◌, ℕ, ◌+◌, ◌-◌, ◌*◌, ◌<◌, ◌≤◌, leb, ◌⊎◌, List, [], ◌∷◌, ◌++◌, length, Ok, Err, Result, sym, refl, ap, ◌∙◌, subst, inl, inr, ⊎_elim, append_assoc, append-nil, arith, length-append}
use Rattle.std.proofs.lemmas.Bool.{and_parts, and_from, le-leb, leb-true, cond_both, both_ways}
use Rattle.source.specs.declared.header.Header.{Header}
use Rattle.source.specs.declared.header.HeaderError.{HeaderError}
use Rattle.source.specs.declared.header.HeaderError.TheVariants as error
use Rattle.source.specs.declared.reader.Class.{Class}
use Rattle.source.specs.declared.reader.Field.{Field}
use Rattle.source.specs.declared.reader.Field.TheVariants.{Width, Height, Maxval}
use Rattle.source.specs.declared.reader.State.{State}
use Rattle.source.specs.declared.reader.State.TheVariants.{Marked, Gap, Comment, Number, Done}
use Rattle.source.specs.declared.reader.Reader.{Reader}
use Rattle.source.specs.Header.{allowed, class_of, judged, kept, longer, next, run, start}
use Rattle.source.specs.Grammar as grammar
use Rattle.source.specs.Grammar.{IsHeader, Text}
use Rattle.source.specs.Limits.{Allowed, limit_of}
use Rattle.source.specs.Reading.{Begins, Spoiled, at_width, at_height, at_maxval}
use Rattle.source.proofs.Accepting.{at, nine, sat}
use Rattle.source.proofs.Classes.{Of, class, digit, hash, newline, other, ten, white}
use Rattle.source.proofs.Growing.{gap_comment, gap_white, number_more, number_one, text_more}
use Rattle.source.proofs.Running.{ended_at, not_ended, on}

-- the bytes behind the mark and before the gap of a field
data Before : Field → ℕ → ℕ → List ℕ → Type 0 where
  first : {w h : ℕ} → Before Width w h []
  second : {w h : ℕ} {a x : List ℕ} → grammar.Gap a → grammar.Number w x → Before Height w h (a ++ x)
  third : {w h : ℕ} {a x b y : List ℕ} → grammar.Gap a → grammar.Number w x → grammar.Gap b → grammar.Number h y → Before Maxval w h (a ++ (x ++ (b ++ y)))

-- the numbers before a field are allowed
abbrev Good : Field → ℕ → ℕ → Type 0
Good Width w h = Unit {0}
Good Height w h = Allowed Width w
Good Maxval w h = Allowed Width w × Allowed Height h

record InGap (f : Field) (w h : ℕ) (xs : List ℕ) : Type 0 where
  front : List ℕ
  gap : List ℕ
  before : Before f w h front
  good : Good f w h
  is : grammar.Gap gap
  whole : xs ≡ front ++ gap

record InComment (f : Field) (w h : ℕ) (xs : List ℕ) : Type 0 where
  front : List ℕ
  gap : List ℕ
  text : List ℕ
  before : Before f w h front
  good : Good f w h
  is : grammar.Gap gap
  says : Text text
  whole : xs ≡ front ++ (gap ++ (35 ∷ text))

record InNumber (f : Field) (w h v : ℕ) (xs : List ℕ) : Type 0 where
  front : List ℕ
  gap : List ℕ
  ds : List ℕ
  value : ℕ
  before : Before f w h front
  good : Good f w h
  is : grammar.Gap gap
  number : grammar.Number value ds
  stored : v ≡ sat f value
  whole : xs ≡ front ++ (gap ++ ds)

-- the mark and then xs begin a header that goes on behind them
pub record Partway (mark : ℕ) (xs : List ℕ) : Type 0 where
  pub begins : Begins mark (80 ∷ mark ∷ xs)
  pub more : 0 < length begins.rest

module _ (mark : ℕ) where
  record Whole (w h m : ℕ) (xs : List ℕ) : Type 0 where
    is : IsHeader mark w h m (80 ∷ mark ∷ xs)
    good : Allowed Width w × Allowed Height h × Allowed Maxval m

  -- what the bytes behind the mark are when a reader has taken them
  abbrev Behind : State → ℕ → ℕ → ℕ → List ℕ → Type 0
  Behind Marked w h m xs = xs ≡ []
  Behind (Gap f) w h m xs = InGap f w h xs
  Behind (Comment f) w h m xs = InComment f w h xs
  Behind (Number f v) w h m xs = InNumber f w h v xs
  Behind Done w h m xs = Whole w h m xs

  -- ones complete a header
  begun : {f : Field} {w h v b : ℕ} {front g ds : List ℕ} → Before f w h front → grammar.Gap g → grammar.Number v ds → grammar.White b
      → Begins mark (80 ∷ mark ∷ (front ++ (g ++ (ds ++ (b ∷ [])))))
  begun {v = v} {b = b} {g = g} {ds = ds} first i n x =
      record {
        rest = 49 ∷ 10 ∷ 49 ∷ 10 ∷ [];
        width = v;
        height = 1;
        maxval = 1;
        is = let e : g ++ (ds ++ ((b ∷ []) ++ ((49 ∷ []) ++ ((10 ∷ []) ++ ((49 ∷ []) ++ (10 ∷ [])))))) ≡ (g ++ (ds ++ (b ∷ []))) ++ (49 ∷ 10 ∷ 49 ∷ 10 ∷ []) = simp append_assoc in
            subst (λ l. IsHeader mark v 1 1 (80 ∷ mark ∷ l)) e
            (grammar.header i n (grammar.gap x grammar.none) (number_one 49 (omega arith) (omega arith)) (grammar.gap grammar.newline grammar.none) (number_one 49 (omega arith) (omega arith)) grammar.newline);
      }
  begun {v = v} {b = b} {g = g} {ds = ds} (second {w} {a} {x = y} j k) i n x =
      record {
        rest = 49 ∷ 10 ∷ [];
        width = w;
        height = v;
        maxval = 1;
        is = let e : a ++ (y ++ (g ++ (ds ++ ((b ∷ []) ++ ((49 ∷ []) ++ (10 ∷ [])))))) ≡ ((a ++ y) ++ (g ++ (ds ++ (b ∷ [])))) ++ (49 ∷ 10 ∷ []) = simp append_assoc in
            subst (λ l. IsHeader mark w v 1 (80 ∷ mark ∷ l)) e
            (grammar.header j k i n (grammar.gap x grammar.none) (number_one 49 (omega arith) (omega arith)) grammar.newline);
      }
  begun {v = v} {b = b} {g = g} {ds = ds} (third {w} {h} {a} {x = y} {b = c} {y = z} j k o p) i n x =
      record {
        rest = [];
        width = w;
        height = h;
        maxval = v;
        is = let e : a ++ (y ++ (c ++ (z ++ (g ++ (ds ++ (b ∷ [])))))) ≡ ((a ++ (y ++ (c ++ z))) ++ (g ++ (ds ++ (b ∷ [])))) ++ [] = simp (append_assoc, append-nil) in
            subst (λ l. IsHeader mark w h v (80 ∷ mark ∷ l)) e (grammar.header j k o p i n x);
      }

  -- what begins a header with more bytes begins one
  shorter : (xs : List ℕ) (y : ℕ) (ys zs : List ℕ) → zs ≡ xs ++ (y ∷ ys) → Begins mark (80 ∷ mark ∷ zs) → Partway mark xs
  shorter xs y ys zs e d =
      record {
        begins =
            record {
              rest = y ∷ (ys ++ d.rest);
              width = d.width;
              height = d.height;
              maxval = d.maxval;
              is =
                  subst (λ l. IsHeader mark d.width d.height d.maxval (80 ∷ mark ∷ l)) (ap (λ l. l ++ d.rest) e ∙ append_assoc xs (y ∷ ys) d.rest) d.is;
            };
        more = omega arith;
      }

  -- what a reader has taken begins a header
  complete : (s : State) (w h m : ℕ) (xs : List ℕ) → (s ≡ Done → ⊥) → Behind s w h m xs → Partway mark xs
  complete Marked w h m xs _ e =
      shorter xs 10 (49 ∷ 10 ∷ []) (10 ∷ 49 ∷ 10 ∷ []) (ap (λ l. l ++ (10 ∷ 49 ∷ 10 ∷ [])) (sym e))
      (begun (first {w = w} {h = h}) (grammar.gap grammar.newline grammar.none) (number_one 49 (omega arith) (omega arith)) grammar.newline)
  complete (Gap f) w h m xs _ i =
      shorter xs 49 (10 ∷ []) (i.front ++ (i.gap ++ (49 ∷ 10 ∷ []))) (sym (ap (λ l. l ++ (49 ∷ 10 ∷ [])) i.whole ∙ append_assoc i.front i.gap (49 ∷ 10 ∷ [])))
      (begun i.before i.is (number_one 49 (omega arith) (omega arith)) grammar.newline)
  complete (Comment f) w h m xs _ i =
      let e : i.front ++ ((i.gap ++ (35 ∷ (i.text ++ (10 ∷ [])))) ++ (49 ∷ 10 ∷ [])) ≡ (i.front ++ (i.gap ++ (35 ∷ i.text))) ++ (10 ∷ 49 ∷ 10 ∷ []) = simp append_assoc in
      shorter xs 10 (49 ∷ 10 ∷ []) (i.front ++ ((i.gap ++ (35 ∷ (i.text ++ (10 ∷ [])))) ++ (49 ∷ 10 ∷ []))) (e ∙ ap (λ l. l ++ (10 ∷ 49 ∷ 10 ∷ [])) (sym i.whole))
      (begun i.before (gap_comment i.text i.is i.says) (number_one 49 (omega arith) (omega arith)) grammar.newline)
  complete (Number f v) w h m xs _ i =
      let e : i.front ++ (i.gap ++ (i.ds ++ (10 ∷ []))) ≡ (i.front ++ (i.gap ++ i.ds)) ++ (10 ∷ []) = simp append_assoc in
      shorter xs 10 [] (i.front ++ (i.gap ++ (i.ds ++ (10 ∷ [])))) (e ∙ ap (λ l. l ++ (10 ∷ [])) (sym i.whole))
      (begun i.before i.is i.number grammar.newline)
  complete Done w h m xs live i = absurd (live refl)

  -- a number that is not allowed
  spoiled : {f : Field} {w h v b : ℕ} {front g ds : List ℕ} → Before f w h front → Good f w h → grammar.Gap g → grammar.Number v ds → (Allowed f v → ⊥) → grammar.White b
      → Spoiled mark (80 ∷ mark ∷ (front ++ (g ++ (ds ++ (b ∷ [])))))
  spoiled first t i n bad x = at_width i n bad x
  spoiled {b = b} {g = g} {ds = ds} (second {w} {a} {x = y} j k) t i n bad x =
      subst (λ l. Spoiled mark (80 ∷ mark ∷ l)) (sym (append_assoc a y (g ++ (ds ++ (b ∷ []))))) (at_height j k t i n bad x)
  spoiled {b = b} {g = g} {ds = ds} (third {w} {h} {a} {x = y} {b = c} {y = z} j k o p) t i n bad x =
      let e : a ++ (y ++ (c ++ (z ++ (g ++ (ds ++ (b ∷ [])))))) ≡ (a ++ (y ++ (c ++ z))) ++ (g ++ (ds ++ (b ∷ []))) = simp append_assoc in
      subst (λ l. Spoiled mark (80 ∷ mark ∷ l)) e (at_maxval j k t.0 o p t.1 i n bad x)

  -- what a byte at place p does, when the bytes behind the mark are then ys
  abbrev Then : ℕ → List ℕ → Result Reader HeaderError → Type 0
  Then p ys (Ok r) = Behind r.state r.width r.height r.maxval ys
  Then p ys (Err error.Mark) = ⊥
  Then p ys (Err (error.End _)) = ⊥
  Then p ys (Err (error.Byte q)) = q ≡ p
  Then p ys (Err (error.Number q)) = (q ≡ p) × Begins mark (80 ∷ mark ∷ ys) × Spoiled mark (80 ∷ mark ∷ ys)

  module _ (w h m p b : ℕ) (xs : List ℕ) where
    then_white : (f : Field) → grammar.White b → InGap f w h xs → InGap f w h (xs ++ (b ∷ []))
    then_white f x i =
        record {
          front = i.front;
          gap = i.gap ++ (b ∷ []);
          before = i.before;
          good = i.good;
          is = gap_white i.is x;
          whole = ap (λ l. l ++ (b ∷ [])) i.whole ∙ append_assoc i.front i.gap (b ∷ []);
        }

    then_first : grammar.White b → xs ≡ [] → InGap Width w h (xs ++ (b ∷ []))
    then_first x e =
        record { front = []; gap = b ∷ []; before = first; good = tt; is = grammar.gap x grammar.none; whole = ap (λ l. l ++ (b ∷ [])) e }

    then_hash : (f : Field) → b ≡ 35 → InGap f w h xs → InComment f w h (xs ++ (b ∷ []))
    then_hash f e i =
        record {
          front = i.front;
          gap = i.gap;
          text = [];
          before = i.before;
          good = i.good;
          is = i.is;
          says = tt;
          whole = ap (λ x. xs ++ (x ∷ [])) e ∙ ap (λ l. l ++ (35 ∷ [])) i.whole ∙ append_assoc i.front i.gap (35 ∷ []);
        }

    then_text : (f : Field) → (b ≡ 10 → ⊥) → InComment f w h xs → InComment f w h (xs ++ (b ∷ []))
    then_text f n i =
        let e : (i.front ++ (i.gap ++ (35 ∷ i.text))) ++ (b ∷ []) ≡ i.front ++ (i.gap ++ (35 ∷ (i.text ++ (b ∷ [])))) = simp append_assoc in
        record {
          front = i.front;
          gap = i.gap;
          text = i.text ++ (b ∷ []);
          before = i.before;
          good = i.good;
          is = i.is;
          says = text_more i.text b i.says n;
          whole = ap (λ l. l ++ (b ∷ [])) i.whole ∙ e;
        }

    then_end : (f : Field) → b ≡ 10 → InComment f w h xs → InGap f w h (xs ++ (b ∷ []))
    then_end f n i =
        let e : (i.front ++ (i.gap ++ (35 ∷ i.text))) ++ (10 ∷ []) ≡ i.front ++ (i.gap ++ (35 ∷ (i.text ++ (10 ∷ [])))) = simp append_assoc in
        record {
          front = i.front;
          gap = i.gap ++ (35 ∷ (i.text ++ (10 ∷ [])));
          before = i.before;
          good = i.good;
          is = gap_comment i.text i.is i.says;
          whole = ap (λ x. xs ++ (x ∷ [])) n ∙ ap (λ l. l ++ (10 ∷ [])) i.whole ∙ e;
        }

    then_digit : (f : Field) → 48 ≤ b → b ≤ 57 → InGap f w h xs → InNumber f w h (b - 48) (xs ++ (b ∷ []))
    then_digit f l u i =
        record {
          front = i.front;
          gap = i.gap;
          ds = b ∷ [];
          value = b - 48;
          before = i.before;
          good = i.good;
          is = i.is;
          number = number_one b l u;
          stored = omega (arith, nine f);
          whole = ap (λ l. l ++ (b ∷ [])) i.whole ∙ append_assoc i.front i.gap (b ∷ []);
        }

    then_more : (f : Field) (v : ℕ) → 48 ≤ b → b ≤ 57 → InNumber f w h v xs → InNumber f w h (longer f v (b - 48)) (xs ++ (b ∷ []))
    then_more f v l u i =
        let e : (i.front ++ (i.gap ++ i.ds)) ++ (b ∷ []) ≡ i.front ++ (i.gap ++ (i.ds ++ (b ∷ []))) = simp append_assoc in
        record {
          front = i.front;
          gap = i.gap;
          ds = i.ds ++ (b ∷ []);
          value = 10 * i.value + (b - 48);
          before = i.before;
          good = i.good;
          is = i.is;
          number = number_more i.value i.ds b i.number l u;
          stored = omega (arith, i.stored);
          whole = ap (λ l. l ++ (b ∷ [])) i.whole ∙ e;
        }

    -- the white byte behind a number
    then_kept : (f : Field) (v : ℕ) (front g ds : List ℕ) → Before f w h front → Good f w h → grammar.Gap g → grammar.Number v ds → Allowed f v → grammar.White b
        → xs ≡ front ++ (g ++ ds) → Then p (xs ++ (b ∷ [])) (Ok (kept f v (at (Number f v) w h m)))
    then_kept _ v _ g ds first t i n a x e =
        record { front = g ++ ds; gap = b ∷ []; before = second i n; good = a; is = grammar.gap x grammar.none; whole = ap (λ l. l ++ (b ∷ [])) e }
    then_kept _ v _ g ds (second {a = c} {x = y} j k) t i n a x e =
        record {
          front = c ++ (y ++ (g ++ ds));
          gap = b ∷ [];
          before = third j k i n;
          good = (t, a);
          is = grammar.gap x grammar.none;
          whole = ap (λ l. l ++ (b ∷ [])) (e ∙ append_assoc c y (g ++ ds));
        }
    then_kept _ v _ g ds (third {a = c} {x = y} {b = d} {y = z} j k o q) t i n a x e =
        let l : c ++ (y ++ (d ++ (z ++ (g ++ (ds ++ (b ∷ [])))))) ≡ ((c ++ (y ++ (d ++ z))) ++ (g ++ ds)) ++ (b ∷ []) = simp append_assoc in
        record { is = subst (λ l. IsHeader mark w h v (80 ∷ mark ∷ l)) (l ∙ ap (λ l. l ++ (b ∷ [])) (sym e)) (grammar.header j k o q i n x); good = (t.0, t.1, a) }

    then_judged : (f : Field) (v : ℕ) → grammar.White b → InNumber f w h v xs → Then p (xs ++ (b ∷ [])) (judged p f v (at (Number f v) w h m))
    then_judged f v x i =
        cond_both (allowed f v) (Ok (kept f v (at (Number f v) w h m))) (Err (error.Number p)) (Then p (xs ++ (b ∷ [])))
        (λ t.
        let c = and_parts (leb 1 v) (leb v (limit_of f)) t in
        let a : Allowed f v = (leb-true 1 v c.0, leb-true v (limit_of f) c.1) in
        let s : i.value ≡ v = omega (arith, i.stored, a.1) in
        then_kept f v i.front i.gap i.ds i.before i.good i.is (subst (λ n. grammar.Number n i.ds) s i.number) a x i.whole)
        (λ t.
        let e : i.front ++ (i.gap ++ (i.ds ++ (b ∷ []))) ≡ (i.front ++ (i.gap ++ i.ds)) ++ (b ∷ []) = simp append_assoc in
        let l : i.front ++ (i.gap ++ (i.ds ++ (b ∷ []))) ≡ xs ++ (b ∷ []) = e ∙ ap (λ l. l ++ (b ∷ [])) (sym i.whole) in
        let bad : Allowed f i.value → ⊥ = λ a. both_ways (allowed f v) t
        (and_from (leb 1 v) (leb v (limit_of f)) (le-leb 1 v (omega (arith, i.stored, a.0))) (le-leb v (limit_of f) (omega (arith, i.stored, a.1)))) in (
          refl,
          subst (λ l. Begins mark (80 ∷ mark ∷ l)) l (begun i.before i.is i.number x),
          subst (λ l. Spoiled mark (80 ∷ mark ∷ l)) l (spoiled i.before i.good i.is i.number bad x),
        ))

  step : (s : State) (w h m p b : ℕ) (xs : List ℕ) (c : Class) → Of b c → Behind s w h m xs → Then p (xs ++ (b ∷ [])) (next p s c (at s w h m))
  step Marked w h m p b xs _ (newline i) d = then_first w h m p b xs (ten b i) d
  step Marked w h m p b xs _ (white _ x) d = then_first w h m p b xs x d
  step Marked w h m p b xs _ (hash i) d = refl
  step Marked w h m p b xs _ (digit l u) d = refl
  step Marked w h m p b xs _ (other i) d = refl
  step (Gap f) w h m p b xs _ (newline i) d = then_white w h m p b xs f (ten b i) d
  step (Gap f) w h m p b xs _ (white _ x) d = then_white w h m p b xs f x d
  step (Gap f) w h m p b xs _ (hash i) d = then_hash w h m p b xs f i d
  step (Gap f) w h m p b xs _ (digit l u) d = then_digit w h m p b xs f l u d
  step (Gap f) w h m p b xs _ (other i) d = refl
  step (Comment f) w h m p b xs _ (newline i) d = then_end w h m p b xs f i d
  step (Comment f) w h m p b xs _ (white i _) d = then_text w h m p b xs f i d
  step (Comment f) w h m p b xs _ (hash i) d = then_text w h m p b xs f (λ j. omega arith) d
  step (Comment f) w h m p b xs _ (digit l u) d = then_text w h m p b xs f (λ j. omega arith) d
  step (Comment f) w h m p b xs _ (other i) d = then_text w h m p b xs f i d
  step (Number f v) w h m p b xs _ (newline i) d = then_judged w h m p b xs f v (ten b i) d
  step (Number f v) w h m p b xs _ (white _ x) d = then_judged w h m p b xs f v x d
  step (Number f v) w h m p b xs _ (hash i) d = refl
  step (Number f v) w h m p b xs _ (digit l u) d = then_more w h m p b xs f v l u d
  step (Number f v) w h m p b xs _ (other i) d = refl
  step Done w h m p b xs _ (newline i) d = refl
  step Done w h m p b xs _ (white _ x) d = refl
  step Done w h m p b xs _ (hash i) d = refl
  step Done w h m p b xs _ (digit l u) d = refl
  step Done w h m p b xs _ (other i) d = refl

done : (t : State) → (t ≡ Done) ⊎ (t ≡ Done → ⊥)
done Marked = inr (λ e. let z : ◌≡◌ {A = ℕ} 0 1 = cc in omega arith)
done (Gap _) = inr (λ e. let z : ◌≡◌ {A = ℕ} 0 1 = cc in omega arith)
done (Comment _) = inr (λ e. let z : ◌≡◌ {A = ℕ} 0 1 = cc in omega arith)
done (Number _ _) = inr (λ e. let z : ◌≡◌ {A = ℕ} 0 1 = cc in omega arith)
done Done = inl refl

-- the bytes bs behind the mark begin with the header d
pub record Took (mark : ℕ) (bs : List ℕ) (d : Header) : Type 0 where
  pub front : List ℕ
  pub back : List ℕ
  pub whole : bs ≡ front ++ back
  pub long : d.length ≡ 2 + length front
  pub is : IsHeader mark d.width d.height d.maxval (80 ∷ mark ∷ front)
  pub good : Allowed Width d.width × Allowed Height d.height × Allowed Maxval d.maxval

-- the byte at place p is refused, whatever stands behind it
pub record Stopped (e : HeaderError) (p : ℕ) (bs : List ℕ) : Type 0 where
  pub front : List ℕ
  pub last : ℕ
  pub back : List ℕ
  pub whole : bs ≡ (front ++ (last ∷ [])) ++ back
  pub place : p ≡ 2 + length front
  pub always : (cs : List ℕ) → run start 2 ((front ++ (last ∷ [])) ++ cs) ≡ Err e

pub record Misread (mark p : ℕ) (bs : List ℕ) : Type 0 where
  pub stopped : Stopped (error.Byte p) p bs
  pub before : Partway mark stopped.front

pub record Misjudged (mark p : ℕ) (bs : List ℕ) : Type 0 where
  pub stopped : Stopped (error.Number p) p bs
  pub begins : Begins mark (80 ∷ mark ∷ (stopped.front ++ (stopped.last ∷ [])))
  pub spoiled : Spoiled mark (80 ∷ mark ∷ (stopped.front ++ (stopped.last ∷ [])))

-- what the bytes bs behind the mark are, by what a run over them answers
abbrev pub Out : ℕ → List ℕ → Result Header HeaderError → Type 0
Out mark bs (Ok d) = Took mark bs d
Out mark bs (Err error.Mark) = ⊥
Out mark bs (Err (error.End p)) = (p ≡ 2 + length bs) × Partway mark bs
Out mark bs (Err (error.Byte p)) = Misread mark p bs
Out mark bs (Err (error.Number p)) = Misjudged mark p bs

-- a reader has taken xs
record Reached (mark : ℕ) (r : Reader) (xs : List ℕ) : Type 0 where
  goes : (cs : List ℕ) → run start 2 (xs ++ cs) ≡ run r (2 + length xs) cs
  is : Behind mark r.state r.width r.height r.maxval xs
  live : r.state ≡ Done → ⊥

module _ (mark : ℕ) (r : Reader) (xs : List ℕ) (b : ℕ) (bs : List ℕ) (d : Reached mark r xs) where
  goes_on : (x : Result Reader HeaderError) → next (2 + length xs) r.state (class_of b) r ≡ x → (cs : List ℕ) → run start 2 ((xs ++ (b ∷ [])) ++ cs) ≡ on (2 + length xs) cs x
  unfolding run
  goes_on x e cs = ap (run start 2) (append_assoc xs (b ∷ []) cs) ∙ d.goes (b ∷ cs) ∙ ap (on (2 + length xs) cs) e

  stopped : (e : HeaderError) (q : ℕ) → q ≡ 2 + length xs → next (2 + length xs) r.state (class_of b) r ≡ Err e → Stopped e q (xs ++ (b ∷ bs))
  stopped e q i n =
      record { front = xs; last = b; back = bs; whole = sym (append_assoc xs (b ∷ []) bs); place = i; always = goes_on (Err e) n }

  longer_by : 2 + length xs + 1 ≡ 2 + length (xs ++ (b ∷ []))
  longer_by = simp length-append (omega arith)

  turn : (x : Result Reader HeaderError) → next (2 + length xs) r.state (class_of b) r ≡ x → Then mark (2 + length xs) (xs ++ (b ∷ [])) x
      → ((s : Reader) → Reached mark s (xs ++ (b ∷ [])) → Out mark ((xs ++ (b ∷ [])) ++ bs) (run s (2 + length (xs ++ (b ∷ []))) bs))
      → Out mark (xs ++ (b ∷ bs)) (on (2 + length xs) bs x)
  unfolding stopped
  turn (Err error.Mark) e t go = absurd t
  turn (Err (error.End _)) e t go = absurd t
  turn (Err (error.Byte q)) e t go =
      record { stopped = stopped (error.Byte q) q t e; before = complete mark r.state r.width r.height r.maxval xs d.live d.is }
  turn (Err (error.Number q)) e t go = record { stopped = stopped (error.Number q) q t.0 e; begins = t.1; spoiled = t.2 }
  turn (Ok s) e t go = ⊎_elim here on_and_on (done s.state)
    where
      here : s.state ≡ Done → Out mark (xs ++ (b ∷ bs)) (on (2 + length xs) bs (Ok s))
      here i =
          let k = subst (λ a. Behind mark a s.width s.height s.maxval (xs ++ (b ∷ []))) i t in
          subst (Out mark (xs ++ (b ∷ bs))) (sym (ended_at s.state s (2 + length xs + 1) (2 + length xs + 1) (run s (2 + length xs + 1) bs) i refl))
          (record { front = xs ++ (b ∷ []); back = bs; whole = sym (append_assoc xs (b ∷ []) bs); long = longer_by; is = k.is; good = k.good })

      on_and_on : (s.state ≡ Done → ⊥) → Out mark (xs ++ (b ∷ bs)) (on (2 + length xs) bs (Ok s))
      on_and_on n =
          let u : (cs : List ℕ) → on (2 + length xs) cs (Ok s) ≡ run s (2 + length (xs ++ (b ∷ []))) cs =
          λ cs. not_ended s.state s (2 + length xs + 1) (run s (2 + length xs + 1) cs) n ∙ ap (λ k. run s k cs) longer_by in
          subst (Out mark (xs ++ (b ∷ bs))) (sym (u bs))
          (subst (λ l. Out mark l (run s (2 + length (xs ++ (b ∷ []))) bs)) (append_assoc xs (b ∷ []) bs)
          (go s (record { goes = λ cs. goes_on (Ok s) e cs ∙ u cs; is = t; live = n })))

follow : (mark : ℕ) (bs xs : List ℕ) (r : Reader) → Reached mark r xs → Out mark (xs ++ bs) (run r (2 + length xs) bs)
unfolding run
follow mark [] xs r d =
    (ap (λ l. 2 + length l) (sym (append-nil xs)), subst (Partway mark) (sym (append-nil xs)) (complete mark r.state r.width r.height r.maxval xs d.live d.is))
follow mark (b ∷ bs) xs r d =
    turn mark r xs b bs d (next (2 + length xs) r.state (class_of b) r) refl
    (step mark r.state r.width r.height r.maxval (2 + length xs) b xs (class_of b) (class b) d.is) (λ s. follow mark bs (xs ++ (b ∷ [])) s)

pub out : (mark : ℕ) (bs : List ℕ) → Out mark bs (run start 2 bs)
out mark bs = follow mark bs [] start (record { goes = λ cs. refl; is = refl; live = λ e. let z : ◌≡◌ {A = ℕ} 0 1 = cc in omega arith })
