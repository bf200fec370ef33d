use Rattle.std.proofs.Common.{◌≡◌, ℕ, ◌+◌, ◌-◌, ◌≤◌, List, [], ◌∷◌, ◌++◌, length, take, drop, decimal, ap, ◌∙◌, arith, rules, length-append}
use borrow.Rule.Slice.PartMut.{put_mid}
use Rattle.writer.specs.File.{field}
use Rattle.writer.specs.Calls.{over}
use Rattle.writer.proofs.Heads.{length-field, length-header, header_is}
use Rattle.writer.proofs.Paste.{over_next, length-behind, length-put}
use Rattle.writer.proofs.header.put_header.Goals.{After-put_field-end, After-put_field-end-2}
use Rattle.writer.proofs.header.put_header.Goals as goal

-- a write behind q bytes
abbrev with_part : List ℕ → ℕ → List ℕ → List ℕ
with_part s q part = put_mid q (length s - q) s part

behind : (s s1 part : List ℕ) (q : ℕ) → length s1 ≡ length s → q ≤ length s → length part ≡ length (take (length s1 - q) (drop q s1)) → length (with_part s1 q part) ≡ length s
behind s s1 part q l h e = length-put s1 part q (omega arith) e ∙ l

-- n bytes have room behind q bytes
abbrev Next : List ℕ → ℕ → ℕ → Type 0
Next s q n = (q ≤ length s) × (n ≤ length (take (length s - q) (drop q s)))

next : (s s1 : List ℕ) (q n : ℕ) → length s1 ≡ length s → q + n ≤ length s → Next s1 q n
next s s1 q n l h = (omega arith, omega (arith, length-behind s1 q))

pub put_mark-end-requires : goal.put_mark-end-requires
put_mark-end-requires c = omega (arith, length-header c.args.mark c.args.size.width c.args.size.height c.args.size.maxval)

pub put_field-end-requires : goal.put_field-end-requires
put_field-end-requires c =
    let all = length-header c.args.mark c.args.size.width c.args.size.height c.args.size.maxval in
    (next c.args.out.now c.put_mark-end.new.out c.put_mark-end.result (length (decimal c.args.size.width) + 1) c.put_mark-end.auto.out (omega arith)).1

-- behind the width
second : (c : After-put_field-end) → Next (with_part c.put_mark-end.new.out c.put_mark-end.result c.put_field-end.new.out) (c.put_mark-end.result + c.put_field-end.result) (length (decimal c.args.size.height) + 1)
second c =
    let all = length-header c.args.mark c.args.size.width c.args.size.height c.args.size.maxval in
    next c.args.out.now _ (c.put_mark-end.result + c.put_field-end.result) (length (decimal c.args.size.height) + 1)
    (behind c.args.out.now c.put_mark-end.new.out c.put_field-end.new.out c.put_mark-end.result c.put_mark-end.auto.out (omega arith) c.put_field-end.auto.out) (omega arith)

pub slice_bounds-put_field-count-2 : goal.slice_bounds-put_field-count-2
slice_bounds-put_field-count-2 c = (second (goal.at.slice_bounds-put_field-count-2 c).After-put_field-end).0

pub slice_bounds-put_field-start-2 : goal.slice_bounds-put_field-start-2
slice_bounds-put_field-start-2 c = let h = (second (goal.at.slice_bounds-put_field-start-2 c).After-put_field-end).0 in search rules

pub put_field-end-requires-2 : goal.put_field-end-requires-2
put_field-end-requires-2 c = (second (goal.at.put_field-end-requires-2 c).After-put_field-end).1

-- behind the height
third : (c : After-put_field-end-2)
    → Next (with_part (with_part c.put_mark-end.new.out c.put_mark-end.result c.put_field-end.new.out) (c.put_mark-end.result + c.put_field-end.result) c.put_field-end-2.new.out) (c.put_mark-end.result + c.put_field-end.result + c.put_field-end-2.result) (length (decimal c.args.size.maxval) + 1)
third c =
    let all = length-header c.args.mark c.args.size.width c.args.size.height c.args.size.maxval in
    next c.args.out.now _ (c.put_mark-end.result + c.put_field-end.result + c.put_field-end-2.result) (length (decimal c.args.size.maxval) + 1)
    (behind c.args.out.now _ c.put_field-end-2.new.out (c.put_mark-end.result + c.put_field-end.result)
    (behind c.args.out.now c.put_mark-end.new.out c.put_field-end.new.out c.put_mark-end.result c.put_mark-end.auto.out (omega arith) c.put_field-end.auto.out) (omega arith) c.put_field-end-2.auto.out) (omega arith)

pub slice_bounds-put_field-count-3 : goal.slice_bounds-put_field-count-3
slice_bounds-put_field-count-3 c = (third (goal.at.slice_bounds-put_field-count-3 c).After-put_field-end-2).0

pub slice_bounds-put_field-start-3 : goal.slice_bounds-put_field-start-3
slice_bounds-put_field-start-3 c = let h = (third (goal.at.slice_bounds-put_field-start-3 c).After-put_field-end-2).0 in search rules

pub put_field-requires : goal.put_field-requires
put_field-requires c = (third (goal.at.put_field-requires c).After-put_field-end-2).1

pub returns : goal.returns
returns c =
    let s = c.args.out.now in
    let k = c.args.mark in
    let w = c.args.size.width in
    let h = c.args.size.height in
    let m = c.args.size.maxval in
    let mk : List ℕ = 80 ∷ (k ∷ (10 ∷ [])) in
    let all = length-header k w h m in
    let lw = length-field w 32 in
    let lh = length-field h 10 in
    let lm = length-field m 10 in
    let la : length (mk ++ field w 32) ≡ 3 + length (field w 32) = length-append mk (field w 32) in
    let lb : length ((mk ++ field w 32) ++ field h 10) ≡ 3 + length (field w 32) + length (field h 10) = omega (arith, length-append (mk ++ field w 32) (field h 10)) in
    let a = over_next s c.put_mark-end.new.out c.put_field-end.new.out mk (field w 32) c.put_mark-end.result c.put_mark-end.ensures.out c.put_mark-end.ensures.end (omega arith) c.put_field-end.ensures.out in
    let b = over_next s _ c.put_field-end-2.new.out (mk ++ field w 32) (field h 10) (c.put_mark-end.result + c.put_field-end.result) a (omega arith) (omega arith) c.put_field-end-2.ensures.out in
    record {
      end = omega arith;
      out = over_next s _ c.put_field.new.out ((mk ++ field w 32) ++ field h 10) (field m 10) (c.put_mark-end.result + c.put_field-end.result + c.put_field-end-2.result) b (omega arith) (omega arith) c.put_field.ensures.out
          ∙ ap (λ b. over b s) (header_is k w h m);
    }
