-- The laws of the header reader.
use Rattle.std.proofs.Common.{◌≡◌, ℕ, ◌+◌, ◌-◌, ◌<◌, ◌≤◌, false, cond, ◌&&◌, eqb, List, [], ◌∷◌, ◌++◌, length, take, drop, Ok, Err, Result, sym, refl, ap, ◌∙◌, subst, ⊎_elim, append_assoc, append-nil, arith, length-append}
use Rattle.std.proofs.lemmas.List.{take-append-drop, take-take, length-take-le, take_at, take_all}
use Rattle.std.proofs.lemmas.Bool.{and_from, and_parts, both_ways, cases_lt, cases_order, cond_both, eq-eqb, eqb-true}
use Rattle.source.specs.declared.header.Header.{Header}
use Rattle.source.specs.declared.header.HeaderError.{HeaderError}
use Rattle.source.specs.declared.header.HeaderError.TheVariants.{Mark, End, Byte, Number}
use Rattle.source.specs.Header.{header_of, run, start}
use Rattle.source.specs.Grammar.{IsHeader}
use Rattle.source.specs.Reading.{Begins, BeginsAllowed, Exact, Refuses, Spoiled, Starts, Unended, Why, number_of}
use Rattle.source.proofs.Accepting.{Fine, accepts, fine, marked, spoils}
use Rattle.source.proofs.Following.{Partway, Out, Stopped, Took, out}

-- what is said of the bytes, by the answer; unless they only end, it stands whatever follows
abbrev Told : ℕ → List ℕ → Result Header HeaderError → Type 0
Told mark bytes (Ok d) = Starts mark bytes d
Told mark bytes (Err e) = Why mark bytes e × ((number_of e ≡ 2 → ⊥) → (cs : List ℕ) → header_of mark (bytes ++ cs) ≡ Err e)

-- two answers are one
same : {P : Type 0} (x : Result Header HeaderError) (d e : HeaderError) → x ≡ Err d → x ≡ Err e → (number_of d ≡ number_of e → P) → P
same x d e i j h = h (let k : d ≡ e = cc in ap number_of k)

-- a front that is refused for a number is refused with what follows
no_spoiled : (mark : ℕ) (bytes cs : List ℕ) (e : HeaderError) → header_of mark (bytes ++ cs) ≡ Err e → (number_of e ≡ 4 → ⊥) → (n : ℕ) → Spoiled mark (take n bytes) → ⊥
no_spoiled mark bytes cs e i h n s =
    let k : take n bytes ++ (drop n bytes ++ cs) ≡ bytes ++ cs = sym (append_assoc (take n bytes) (drop n bytes) cs) ∙ ap (λ l. l ++ cs) (take-append-drop n bytes) in
    same (header_of mark (bytes ++ cs)) e (Number (length (take n bytes) - 1)) i (ap (header_of mark) (sym k) ∙ spoils mark (drop n bytes ++ cs) s) h

-- what a header's front is answered, with all of it
found : (mark : ℕ) (bytes : List ℕ) (h : Begins mark bytes) (x : Result Header HeaderError) → header_of mark (bytes ++ h.rest) ≡ x → Fine (length (bytes ++ h.rest)) x
found mark bytes h x e =
    subst (Fine (length (bytes ++ h.rest))) (ap (header_of mark) (append-nil (bytes ++ h.rest)) ∙ e) (fine mark h.width h.height h.maxval [] h.is)

module _ (mark : ℕ) (bs : List ℕ) where
  took : (d : Header) → Took mark bs d → Starts mark (80 ∷ mark ∷ bs) d
  took d r =
      let t : take d.length (80 ∷ mark ∷ bs) ≡ 80 ∷ mark ∷ r.front
      = ap (λ l. take d.length (80 ∷ mark ∷ l)) r.whole ∙ take_at (80 ∷ mark ∷ r.front) r.back d.length (omega (arith, r.long)) in
      let l : length bs ≡ length r.front + length r.back = ap length r.whole ∙ length-append r.front r.back in
      record { within = omega (arith, r.long); is = subst (IsHeader mark d.width d.height d.maxval) (sym t) r.is; allowed = r.good }

  module _ (e : HeaderError) (p : ℕ) (s : Stopped e p bs) where
    -- the bytes up to the one that is refused, and with it
    up_to : take p (80 ∷ mark ∷ bs) ≡ 80 ∷ mark ∷ s.front
    up_to =
        ap (λ l. take p (80 ∷ mark ∷ l)) (s.whole ∙ append_assoc s.front (s.last ∷ []) s.back)
        ∙ take_at (80 ∷ mark ∷ s.front) (s.last ∷ s.back) p (omega (arith, s.place))

    with_it : take (p + 1) (80 ∷ mark ∷ bs) ≡ 80 ∷ mark ∷ (s.front ++ (s.last ∷ []))
    with_it =
        ap (λ l. take (p + 1) (80 ∷ mark ∷ l)) s.whole
        ∙ take_at (80 ∷ mark ∷ (s.front ++ (s.last ∷ []))) s.back (p + 1) (omega (arith, s.place, length-append s.front (s.last ∷ [])))

    inside : p < length (80 ∷ mark ∷ bs)
    inside =
        omega (arith, s.place, ap length s.whole, length-append (s.front ++ (s.last ∷ [])) s.back, length-append s.front (s.last ∷ []))

    always : (cs : List ℕ) → header_of mark ((80 ∷ mark ∷ (s.front ++ (s.last ∷ []))) ++ cs) ≡ Err e
    always cs = marked mark ((s.front ++ (s.last ∷ [])) ++ cs) ∙ s.always cs

    stays : (cs : List ℕ) → header_of mark ((80 ∷ mark ∷ bs) ++ cs) ≡ Err e
    stays cs =
        marked mark (bs ++ cs) ∙ ap (λ l. run start 2 (l ++ cs)) s.whole ∙ ap (run start 2) (append_assoc (s.front ++ (s.last ∷ [])) s.back cs) ∙ s.always (s.back ++ cs)

  unended : (p : ℕ) (s : Stopped (Byte p) p bs) → Partway mark s.front → Unended mark (80 ∷ mark ∷ s.front)
  unended p s f =
      record {
        begins = f.begins;
        more = f.more;
        clean = no_spoiled mark (80 ∷ mark ∷ s.front) (s.last ∷ []) (Byte p)
            (ap (header_of mark) (sym (append-nil (80 ∷ mark ∷ (s.front ++ (s.last ∷ []))))) ∙ always (Byte p) p s []) (λ i. omega arith);
      }

  no_header : (p : ℕ) (s : Stopped (Byte p) p bs) → Begins mark (80 ∷ mark ∷ (s.front ++ (s.last ∷ []))) → ⊥
  no_header p s h = found mark (80 ∷ mark ∷ (s.front ++ (s.last ∷ []))) h (Err (Byte p)) (always (Byte p) p s h.rest)

  told-run : (r : Result Header HeaderError) → run start 2 bs ≡ r → Out mark bs r → Told mark (80 ∷ mark ∷ bs) r
  told-run (Ok d) e o = took d o
  told-run (Err Mark) e o = absurd o
  told-run (Err (End p)) e o = (
    (
      omega (arith, o.0),
      λ _.
          record {
            begins = o.1.begins;
            more = o.1.more;
            clean = no_spoiled mark (80 ∷ mark ∷ bs) [] (End p) (ap (header_of mark) (append-nil (80 ∷ mark ∷ bs)) ∙ marked mark bs ∙ e) (λ i. omega arith);
          },
    ),
    λ n. absurd (n refl),
  )
  told-run (Err (Byte p)) e o =
      let s = o.stopped in (
        (
          omega (arith, s.place),
          inside (Byte p) p s,
          subst (Unended mark) (sym (up_to (Byte p) p s)) (unended p s o.before),
          λ h. no_header p s (subst (Begins mark) (with_it (Byte p) p s) h),
        ),
        λ _. stays (Byte p) p s,
      )
  told-run (Err (Number p)) e o =
      let s = o.stopped in (
        (inside (Number p) p s, subst (Begins mark) (sym (with_it (Number p) p s)) o.begins, subst (Spoiled mark) (sym (with_it (Number p) p s)) o.spoiled),
        λ _. stays (Number p) p s,
      )

-- two bytes that are not the mark
other_mark : (mark a b : ℕ) (bs : List ℕ) → (eqb a 80 && eqb b mark) ≡ false → Told mark (a ∷ b ∷ bs) (Err Mark)
other_mark mark a b bs f = (
  (
    omega arith,
    λ e.
        let i : a ≡ 80 = cc in
        let j : b ≡ mark = cc in
        both_ways (eqb a 80 && eqb b mark) f (and_from (eqb a 80) (eqb b mark) (eq-eqb a 80 i) (eq-eqb b mark j)),
  ),
  λ _ cs. ap (λ t. cond t (run start 2 (bs ++ cs)) (Err Mark)) f,
)

told : (mark : ℕ) (bytes : List ℕ) → Told mark bytes (header_of mark bytes)
told mark [] = ((refl, λ l. absurd (omega arith)), λ n. absurd (n refl))
told mark (a ∷ []) = ((refl, λ l. absurd (omega arith)), λ n. absurd (n refl))
told mark (a ∷ b ∷ bs) =
    cond_both (eqb a 80 && eqb b mark) (run start 2 bs) (Err Mark) (Told mark (a ∷ b ∷ bs))
    (λ t.
    let p = and_parts (eqb a 80) (eqb b mark) t in
    subst (λ x. Told mark (x ∷ b ∷ bs) (run start 2 bs)) (sym (eqb-true a 80 p.0))
    (subst (λ x. Told mark (80 ∷ x ∷ bs) (run start 2 bs)) (sym (eqb-true b mark p.1)) (told-run mark bs (run start 2 bs) refl (out mark bs))))
    (other_mark mark a b bs)

-- what starts with a header is accepted, whatever follows
accepted : (mark : ℕ) (bytes cs : List ℕ) (d : Header) → Starts mark bytes d → header_of mark (bytes ++ cs) ≡ Ok d
accepted mark bytes cs d s =
    ap (λ l. header_of mark (l ++ cs)) (sym (take-append-drop d.length bytes))
    ∙ ap (header_of mark) (append_assoc (take d.length bytes) (drop d.length bytes) cs)
    ∙ accepts mark d.width d.height d.maxval (drop d.length bytes ++ cs) s.is s.allowed.0 s.allowed.1 s.allowed.2
    ∙ ap (λ n. Ok (record { width = d.width; height = d.height; maxval = d.maxval; length = n })) (length-take-le d.length bytes s.within)

pub exact : (mark : ℕ) (bytes : List ℕ) (r : Result Header HeaderError) → r ≡ header_of mark bytes → Exact mark bytes r
exact mark bytes r e d =
    (λ i. subst (Told mark bytes) (sym e ∙ i) (told mark bytes), λ s. e ∙ ap (header_of mark) (sym (append-nil bytes)) ∙ accepted mark bytes [] d s)

-- a front of what begins a header begins one
begins_take : (mark : ℕ) (bytes : List ℕ) (n : ℕ) → Begins mark bytes → Begins mark (take n bytes)
begins_take mark bytes n h =
    let e : bytes ++ h.rest ≡ take n bytes ++ (drop n bytes ++ h.rest)
    = ap (λ l. l ++ h.rest) (sym (take-append-drop n bytes)) ∙ append_assoc (take n bytes) (drop n bytes) h.rest in
    record {
      rest = drop n bytes ++ h.rest;
      width = h.width;
      height = h.height;
      maxval = h.maxval;
      is = subst (IsHeader mark h.width h.height h.maxval) e h.is;
    }

begins_front : (mark : ℕ) (bytes : List ℕ) (n k : ℕ) → n ≤ k → Begins mark (take k bytes) → Begins mark (take n bytes)
begins_front mark bytes n k l h = subst (Begins mark) (take-take n k bytes l) (begins_take mark (take k bytes) n h)

starts_begins : (mark : ℕ) (bytes : List ℕ) (d : Header) → Starts mark bytes d → Begins mark (take d.length bytes)
starts_begins mark bytes d s =
    record {
      rest = [];
      width = d.width;
      height = d.height;
      maxval = d.maxval;
      is = subst (IsHeader mark d.width d.height d.maxval) (sym (append-nil (take d.length bytes))) s.is;
    }

-- each reason has its refusal
is_mark : (mark : ℕ) (bytes : List ℕ) → Why mark bytes Mark → header_of mark bytes ≡ Err Mark
is_mark mark [] w = absurd (omega (arith, w.0))
is_mark mark (a ∷ []) w = absurd (omega (arith, w.0))
is_mark mark (a ∷ b ∷ bs) w =
    cond_both (eqb a 80 && eqb b mark) (run start 2 bs) (Err Mark) (λ x. x ≡ Err Mark)
    (λ t.
    let p = and_parts (eqb a 80) (eqb b mark) t in
    let i : a ≡ 80 = eqb-true a 80 p.0 in
    let j : b ≡ mark = eqb-true b mark p.1 in
    absurd (w.1 (ap (λ x. x ∷ b ∷ []) i ∙ ap (λ x. 80 ∷ x ∷ []) j)))
    (λ _. refl)

is_number : (mark : ℕ) (bytes : List ℕ) (p : ℕ) → Why mark bytes (Number p) → header_of mark bytes ≡ Err (Number p)
is_number mark bytes p w =
    let l : length (take (p + 1) bytes) - 1 ≡ p = omega (arith, length-take-le (p + 1) bytes (omega (arith, w.0))) in
    ap (header_of mark) (sym (take-append-drop (p + 1) bytes)) ∙ spoils mark (drop (p + 1) bytes) w.2 ∙ ap (λ n. Err (Number n)) l

going : (mark : ℕ) (bytes : List ℕ) → Unended mark bytes → (r : Result Header HeaderError) → Told mark bytes r → r ≡ Err (End (length bytes))
going mark bytes u (Ok d) t =
    let h = u.begins in
    absurd (omega (arith, found mark bytes h (Ok d) (accepted mark bytes h.rest d t), length-append bytes h.rest, u.more, t.within))
going mark bytes u (Err Mark) t = absurd (found mark bytes u.begins (Err Mark) (t.1 (λ i. omega arith) u.begins.rest))
going mark bytes u (Err (End q)) t = ap (λ n. Err (End n)) t.0.0
going mark bytes u (Err (Byte q)) t = absurd (found mark bytes u.begins (Err (Byte q)) (t.1 (λ i. omega arith) u.begins.rest))
going mark bytes u (Err (Number q)) t = absurd (u.clean (q + 1) t.0.2)

is_end : (mark : ℕ) (bytes : List ℕ) (p : ℕ) → Why mark bytes (End p) → header_of mark bytes ≡ Err (End p)
is_end mark [] p w = ap (λ n. Err (End n)) (sym w.0)
is_end mark (a ∷ []) p w = ap (λ n. Err (End n)) (sym w.0)
is_end mark (a ∷ b ∷ bs) p w =
    let bytes = a ∷ b ∷ bs in
    going mark bytes (w.1 (omega (arith, w.0))) (header_of mark bytes) (told mark bytes) ∙ ap (λ n. Err (End n)) (sym w.0)

module _ (mark : ℕ) (bytes : List ℕ) (p : ℕ) (w : Why mark bytes (Byte p)) where
  long : length (take p bytes) ≡ p
  long = length-take-le p bytes (omega (arith, w.1))

  before : header_of mark (take p bytes) ≡ Err (End p)
  before = going mark (take p bytes) w.2 (header_of mark (take p bytes)) (told mark (take p bytes)) ∙ ap (λ n. Err (End n)) long

  no_longer : (k : ℕ) → p < k → Begins mark (take k bytes) → {P : Type 0} → P
  no_longer k l h = absurd (w.3 (begins_front mark bytes (p + 1) k (omega arith) h))

  no_start : (d : Header) → Starts mark bytes d → d.length ≤ p → ⊥
  no_start d s l =
      let t : Starts mark (take p bytes) d =
      record { within = omega (arith, long); is = subst (IsHeader mark d.width d.height d.maxval) (sym (take-take d.length p bytes l)) s.is; allowed = s.allowed } in
      let i : header_of mark (take p bytes) ≡ Ok d = ap (header_of mark) (sym (append-nil (take p bytes))) ∙ accepted mark (take p bytes) [] d t in
      let j = before in
      let z : ◌≡◌ {A = ℕ} 0 1 = cc in omega arith

  is_byte : (r : Result Header HeaderError) → Told mark bytes r → r ≡ Err (Byte p)
  is_byte (Ok d) t = ⊎_elim (λ l. no_longer d.length l (starts_begins mark bytes d t)) (λ l. absurd (no_start d t l)) (cases_lt p d.length)
  is_byte (Err Mark) t =
      let m = is_mark mark (take p bytes) (omega (arith, long, w.0), λ e. t.0.1 (sym (take-take 2 p bytes w.0) ∙ e)) in
      same (header_of mark (take p bytes)) Mark (End p) m before (λ i. absurd (omega arith))
  is_byte (Err (End q)) t =
      let k : take q bytes ≡ bytes = take_all q bytes (omega (arith, t.0.0)) in
      no_longer q (omega (arith, t.0.0, w.1)) (subst (Begins mark) (sym k) (t.0.1 (omega (arith, t.0.0, w.0, w.1))).begins)
  is_byte (Err (Byte q)) t =
      ⊎_elim (λ e. ap (λ n. Err (Byte n)) e)
      (⊎_elim (λ l. absurd (t.0.3 (begins_front mark bytes (q + 1) p (omega arith) w.2.begins))) (λ l. no_longer q l t.0.2.begins))
      (cases_order q p)
  is_byte (Err (Number q)) t =
      ⊎_elim (λ l. absurd (w.2.clean (q + 1) (subst (Spoiled mark) (sym (take-take (q + 1) p bytes (omega arith))) t.0.2)))
      (λ l. no_longer (q + 1) (omega arith) t.0.1) (cases_lt q p)

is : (mark : ℕ) (bytes : List ℕ) (e : HeaderError) → Why mark bytes e → header_of mark bytes ≡ Err e
is mark bytes Mark w = is_mark mark bytes w
is mark bytes (End p) w = is_end mark bytes p w
is mark bytes (Byte p) w = is_byte mark bytes p w (header_of mark bytes) (told mark bytes)
is mark bytes (Number p) w = is_number mark bytes p w

-- bytes that are refused whatever follows begin no header that is allowed
never : (mark : ℕ) (bytes : List ℕ) (e : HeaderError) → ((cs : List ℕ) → header_of mark (bytes ++ cs) ≡ Err e) → BeginsAllowed mark bytes → ⊥
never mark bytes e always d =
    let h = d.begins in
    let a = d.allowed in
    let i = accepts mark h.width h.height h.maxval [] h.is a.0 a.1 a.2 in
    let j : header_of mark ((bytes ++ h.rest) ++ []) ≡ Err e = ap (header_of mark) (append-nil (bytes ++ h.rest)) ∙ always h.rest in
    let z : ◌≡◌ {A = ℕ} 0 1 = cc in omega arith

pub refuses : (mark : ℕ) (bytes : List ℕ) (r : Result Header HeaderError) → r ≡ header_of mark bytes → Refuses mark bytes r
refuses mark bytes r e =
    record {
      exactly = λ x. (λ i. (subst (Told mark bytes) (sym e ∙ i) (told mark bytes)).0, λ w. e ∙ is mark bytes x w);
      final = λ x i n. never mark bytes x ((subst (Told mark bytes) (sym e ∙ i) (told mark bytes)).1 n);
    }
