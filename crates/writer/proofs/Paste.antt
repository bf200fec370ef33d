-- One write after another.
use Rattle.std.proofs.Common.{◌≡◌, ℕ, suc, ◌+◌, ◌-◌, ◌<◌, ◌≤◌, List, [], ◌∷◌, ◌++◌, length, take, drop, set, sym, ap, ◌∙◌, append_assoc, add-zero, zero-add, arith, length-append, length-drop, length-take}
use borrow.Rule.Slice.PartMut.{put_mid, post_of}
use Rattle.std.proofs.lemmas.List.{take_at, drop_at, drop-drop, take-append-drop, append-nil, drop_all, take_all, length-take-le, set_split}
use Rattle.writer.specs.Layout.{pasted}
use Rattle.writer.specs.Calls.{over}

pub pasted_one : (s : List ℕ) (p x : ℕ) → p < length s → set s p x ≡ pasted s p (x ∷ [])
unfolding pasted
pasted_one s p x h = set_split s p x h ∙ ap (λ n. take p s ++ (x ∷ drop n s)) (let e : suc p ≡ p + 1 = omega arith in e)

pub pasted-none : (s : List ℕ) (p : ℕ) → pasted s p [] ≡ s
unfolding pasted
pasted-none s p = ap (λ n. take p s ++ drop n s) (add-zero p) ∙ take-append-drop p s

pub length-pasted : (s : List ℕ) (p : ℕ) (bs : List ℕ) → p + length bs ≤ length s → length (pasted s p bs) ≡ length s
unfolding pasted
length-pasted s p bs h = simp (length-append, length-take, length-drop) (omega arith)

pub pasted-pasted : (s : List ℕ) (p : ℕ) (a b : List ℕ) (q : ℕ) → p + length a ≡ q → q + length b ≤ length s → pasted (pasted s p a) q b ≡ pasted s p (a ++ b)
unfolding pasted
pasted-pasted s p a b q e h =
    let lp : length (take p s) ≡ p = length-take-le p s (omega arith) in
    let lpa : length (take p s ++ a) ≡ q = length-append (take p s) a ∙ (omega arith) in
    let shape : take p s ++ (a ++ drop (p + length a) s) ≡ (take p s ++ a) ++ drop q s = sym (append_assoc (take p s) a (drop (p + length a) s)) ∙ ap (λ n. (take p s ++ a) ++ drop n s) e in
    let front : take q (take p s ++ (a ++ drop (p + length a) s)) ≡ take p s ++ a = ap (take q) shape ∙ take_at (take p s ++ a) (drop q s) q lpa in
    let more : drop (q + length b) (take p s ++ (a ++ drop (p + length a) s)) ≡ drop (length b) (drop q s) =
    sym (drop-drop (length b) q (take p s ++ (a ++ drop (p + length a) s))) ∙ ap (drop (length b)) (ap (drop q) shape ∙ drop_at (take p s ++ a) (drop q s) q lpa) in
    let back : drop (length b) (drop q s) ≡ drop (p + length (a ++ b)) s = drop-drop (length b) q s ∙ ap (λ n. drop n s) (let z : q + length b ≡ p + length (a ++ b) = omega (arith, length-append a b) in z) in
    ap (λ t. t ++ (b ++ drop (q + length b) (take p s ++ (a ++ drop (p + length a) s)))) front
    ∙ ap (λ t. (take p s ++ a) ++ (b ++ t)) (more ∙ back)
    ∙ append_assoc (take p s) a (b ++ drop (p + length (a ++ b)) s)
    ∙ ap (λ t. take p s ++ t) (sym (append_assoc a b (drop (p + length (a ++ b)) s)))

-- one byte more, after what is written
pub pasted_push : (s s1 : List ℕ) (p : ℕ) (a : List ℕ) (q x : ℕ) → s1 ≡ pasted s p a → p + length a ≡ q → q < length s → set s1 q x ≡ pasted s p (a ++ (x ∷ []))
pasted_push s s1 p a q x e l h =
    let long : length s1 ≡ length s = ap length e ∙ length-pasted s p a (omega arith) in
    pasted_one s1 q x (omega arith) ∙ ap (λ t. pasted t q (x ∷ [])) e ∙ pasted-pasted s p a (x ∷ []) q l (omega arith)

-- more bytes, after what is written
pub pasted-next : (s s1 s2 : List ℕ) (p : ℕ) (a b : List ℕ) (q : ℕ) → s1 ≡ pasted s p a → s2 ≡ pasted s1 q b → p + length a ≡ q → q + length b ≤ length s → s2 ≡ pasted s p (a ++ b)
pasted-next s s1 s2 p a b q e f l h = f ∙ ap (λ t. pasted t q b) e ∙ pasted-pasted s p a b q l h

pub pasted_front : (s bs : List ℕ) → pasted s 0 bs ≡ over bs s
unfolding pasted
pasted_front s bs = ap (λ n. bs ++ drop n s) (zero-add (length bs))

pub take-over : (bs s : List ℕ) (n : ℕ) → n ≡ length bs → take n (over bs s) ≡ bs
take-over bs s n e = take_at bs (drop (length bs) s) n (sym e)

-- a write at the start of what lies behind a place
put-behind : (out : List ℕ) (a : ℕ) (bytes part : List ℕ) → a ≤ length out → part ≡ over bytes (take (length out - a) (drop a out)) → put_mid a (length out - a) out part ≡ pasted out a bytes
unfolding pasted
put-behind out a bytes part h e =
    let l = length-drop a out in
    let t : take (length out - a) (drop a out) ≡ drop a out = take_all (length out - a) (drop a out) (omega arith) in
    let z : a + (length out - a) ≡ length out = omega arith in
    ap (λ x. take a out ++ (x ++ post_of a (length out - a) out)) (e ∙ ap (over bytes) t ∙ ap (λ x. bytes ++ x) (drop-drop (length bytes) a out))
    ∙ ap (λ x. take a out ++ ((bytes ++ drop (a + length bytes) out) ++ x)) (drop-drop (length out - a) a out ∙ ap (λ n. drop n out) z ∙ drop_all (length out) out (omega arith))
    ∙ ap (λ x. take a out ++ x) (append-nil (bytes ++ drop (a + length bytes) out))

pub length-over : (bs s : List ℕ) → length bs ≤ length s → length (over bs s) ≡ length s
length-over bs s h = ap length (sym (pasted_front s bs)) ∙ length-pasted s 0 bs (omega arith)

-- one byte at the start
pub over_one : (s : List ℕ) (x : ℕ) → 0 < length s → set s 0 x ≡ over (x ∷ []) s
over_one s x h = pasted_one s 0 x h ∙ pasted_front s (x ∷ [])

-- one byte more
pub over_push : (s s1 : List ℕ) (a : List ℕ) (q x : ℕ) → s1 ≡ over a s → length a ≡ q → q < length s → set s1 q x ≡ over (a ++ (x ∷ [])) s
over_push s s1 a q x e l h = pasted_push s s1 0 a q x (e ∙ sym (pasted_front s a)) (omega arith) h ∙ pasted_front s (a ++ (x ∷ []))

-- a write at the start of what lies behind the bytes that are written
pub over_next : (s s1 part : List ℕ) (a b : List ℕ) (q : ℕ) → s1 ≡ over a s → q ≡ length a → q + length b ≤ length s → part ≡ over b (take (length s1 - q) (drop q s1))
    → put_mid q (length s1 - q) s1 part ≡ over (a ++ b) s
over_next s s1 part a b q e l h w =
    let f : s1 ≡ pasted s 0 a = e ∙ sym (pasted_front s a) in
    let long : length s1 ≡ length s = ap length f ∙ length-pasted s 0 a (omega arith) in
    pasted-next s s1 (put_mid q (length s1 - q) s1 part) 0 a b q f (put-behind s1 q b part (omega arith) w) (omega arith) h ∙ pasted_front s (a ++ b)

-- what lies behind a place, and the whole after a write there
pub length-behind : (s : List ℕ) (q : ℕ) → length (take (length s - q) (drop q s)) ≡ length s - q
length-behind s q = simp (length-take, length-drop) (omega arith)

pub length-put : (s part : List ℕ) (q : ℕ) → q ≤ length s → length part ≡ length (take (length s - q) (drop q s)) → length (put_mid q (length s - q) s part) ≡ length s
length-put s part q h e =
    let l = length-behind s q in
    simp (length-append, length-take, length-drop) (omega arith)
