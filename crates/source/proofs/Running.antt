-- The steps of a run, as the code makes them.
use Rattle.std.proofs.Common.{◌≡◌, ℕ, ◌+◌, ◌-◌, ◌<◌, ◌≤◌, true, eqb, List, [], ◌∷◌, length, get_or, take, drop, Ok, Err, Result, sym, refl, ap, ◌∙◌, arith}
use Rattle.std.proofs.lemmas.List.{drop_more, drop_all, take_all}
use Rattle.std.proofs.lemmas.Bool.{eq-eqb}
use Rattle.source.specs.declared.header.Header.{Header}
use Rattle.source.specs.declared.header.HeaderError.{HeaderError}
use Rattle.source.specs.declared.header.HeaderError.TheVariants.{End}
use Rattle.source.specs.declared.reader.State.{State}
use Rattle.source.specs.declared.reader.State.TheVariants.{Marked, Gap, Comment, Number, Done}
use Rattle.source.specs.declared.reader.Reader.{Reader}
use Rattle.source.specs.Header.{answered, class_of, ended, header_of, moved, next, onward, run, start}

-- what a byte does, from the answer to it and the reader behind it
pub ok_is : (x : Result Reader HeaderError) (r s : Reader) (u : Result Unit HeaderError) → u ≡ answered x → u ≡ Ok tt → s ≡ moved x r → x ≡ Ok s
ok_is (Ok y) r s u a e m = ap Ok (sym m)
ok_is (Err y) r s u a e m = cc

pub err_is : (x : Result Reader HeaderError) (u : Result Unit HeaderError) (e : HeaderError) → u ≡ answered x → u ≡ Err e → x ≡ Err e
err_is (Ok y) u e a b = cc
err_is (Err y) u e a b = cc

-- what a byte does at place p, and then the rest
abbrev pub on : ℕ → List ℕ → Result Reader HeaderError → Result Header HeaderError
on p bs x = onward x (λ r. ended r.state r (p + 1) (run r (p + 1) bs))

pub run_at : (r : Reader) (p : ℕ) (xs : List ℕ) (i : ℕ) (x : Result Reader HeaderError) → i < length xs → next p r.state (class_of (get_or xs i 0)) r ≡ x
    → run r p (drop i xs) ≡ on p (drop (i + 1) xs) x
unfolding run
run_at r p xs i x h e = ap (run r p) (drop_more xs i 0 h) ∙ ap (on p (drop (i + 1) xs)) e

pub run_end : (r : Reader) (p : ℕ) (xs : List ℕ) (i : ℕ) → length xs ≤ i → run r p (drop i xs) ≡ Err (End p)
unfolding run
run_end r p xs i h = ap (run r p) (drop_all i xs h)

pub not_ended : (t : State) (s : Reader) (n : ℕ) (x : Result Header HeaderError) → (t ≡ Done → ⊥) → ended t s n x ≡ x
not_ended Marked s n x h = refl
not_ended (Gap _) s n x h = refl
not_ended (Comment _) s n x h = refl
not_ended (Number _ _) s n x h = refl
not_ended Done s n x h = absurd (h refl)

pub ended_at : (t : State) (s : Reader) (n m : ℕ) (x : Result Header HeaderError) → t ≡ Done → n ≡ m
    → ended t s n x ≡ Ok (record { width = s.width; height = s.height; maxval = s.maxval; length = m })
ended_at t s n m x e h = rw (e, h)

pub header_of_mark : (mark : ℕ) (xs : List ℕ) → 2 ≤ length xs → get_or xs 0 0 ≡ 80 → get_or xs 1 0 ≡ mark → header_of mark xs ≡ run start 2 (take (length xs - 2) (drop 2 xs))
header_of_mark mark [] h a b = absurd (omega arith)
header_of_mark mark (x ∷ []) h a b = absurd (omega arith)
header_of_mark mark (x ∷ y ∷ xs) h a b =
    let p : eqb x 80 ≡ true = eq-eqb x 80 a in
    let q : eqb y mark ≡ true = eq-eqb y mark b in
    let t : take (length (x ∷ y ∷ xs) - 2) xs ≡ xs = take_all (length (x ∷ y ∷ xs) - 2) xs (omega arith) in
    rw (p, q, t)
