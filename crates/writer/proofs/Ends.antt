-- How a call ends that prepares one part of a picture.
use Rattle.std.proofs.Common.{◌≡◌, ℕ, ◌+◌, ◌≤◌, List, [], length, Some, None, Ok, Err, Option, Result, sym, refl, ap, ◌∙◌, arith}
use Rattle.pixel.specs.Ops.{Ops}
use Rattle.picture.specs.declared.fault.Fault.{Fault}
use Rattle.picture.specs.declared.fault.Refusal.{Refusal}
use Rattle.picture.specs.declared.rect.Rect.{Rect}
use Rattle.picture.specs.Refusals.{done, refused, told}
use Rattle.picture.specs.Places.{Place, first_fault}
use Rattle.picture.specs.Images.{Image, Model}
use Rattle.picture.specs.Prepare as prepare
use Rattle.picture.specs.Prepare.{up, area, nth, answer, put, code_at, filled, Prepared}
use Rattle.picture.proofs.Serving.{answer_is, filled_is}
use Rattle.writer.specs.Calls.{End, early, holed, wrote, ending, outcome_of, amount, end_outcome, end_amount, end_count, end_codes, end_bytes, over, Wrote}

-- with no hole there is no fault
pub no_fault : (x : Option Fault) → done ≡ prepare.holed x → x ≡ None
no_fault None e = refl
no_fault (Some f) e = let z : ◌≡◌ {A = ℕ} 0 1 = cc in absurd (omega arith)

-- a call that was refused did nothing of what it was to do
pub idle : (e : End) (n k : ℕ) (vs : List ℕ) → refused k vs ≡ end_outcome e → end_amount e n ≡ 0
idle (early m) n k vs q = refl
idle (holed f) n k vs q = refl
idle wrote n k vs q = let z : ◌≡◌ {A = ℕ} 0 1 = cc in absurd (omega arith)

pub full : (e : End) (n : ℕ) → done ≡ end_outcome e → end_amount e n ≡ n
full (early m) n q = let z : ◌≡◌ {A = ℕ} 0 1 = cc in absurd (omega arith)
full (holed f) n q = let z : ◌≡◌ {A = ℕ} 0 1 = cc in absurd (omega arith)
full wrote n q = refl

-- the rectangle of a picture that has n places
pub record Part {K : Type 0} (i : Image K) (r : Rect) (place : ℕ → Place K) (n : ℕ) : Type 0 where
  pub across : r.left + r.width ≤ i.width
  pub down : r.top + r.height ≤ i.height
  pub many : area r ≡ n
  pub same : nth i r ≡ place

module _ {P K S : Type 0} (o : Ops K S) (model : P → Model K) (count : P → ℕ) where
  -- the answer is a refusal, and nothing was done
  pub early_wrote : (place : ℕ → Place K) (m : ℕ) (bytes : List ℕ) (p : P) (work out : List ℕ) (a : Result ℕ Refusal) (e : Refusal) (end : End) (n : ℕ)
      → a ≡ Err e → end ≡ early n → told e ≡ refused n [] → Wrote o model count end place m bytes p work out a p work out
  early_wrote place m bytes p work out a e end n r q t = record {
    answers = ap outcome_of r ∙ t ∙ ap end_outcome (sym q);
    amounts = ap amount r ∙ ap (λ x. end_amount x (length bytes)) (sym q);
    fills = ap (λ x. end_codes x (λ k. code_at o (place k)) m work) (sym q);
    writes = ap (λ x. end_bytes x bytes out) (sym q);
    counts = ap (λ x. end_count x (count p)) (sym q);
    keeps = refl;
  }

  module _ (place : ℕ → Place K) (m : ℕ) (bytes : List ℕ) (p : P) (work out : List ℕ) (r : Rect) (q : P) (work' : List ℕ) (part : Part (model p).shown r place m) (room : m ≤ length work) where
    pub part-answer : answer (model p).shown r (length work) ≡ prepare.holed (first_fault place m)
    part-answer =
        let e = part.many in
        answer_is (model p).shown r (length work) part.across part.down (omega arith)
        ∙ ap (λ f. prepare.holed (first_fault f (area r))) part.same ∙ ap (λ n. prepare.holed (first_fault place n)) part.many

    pub part_filled : filled o (model p).shown r work ≡ put (first_fault place m) (λ k. code_at o (place k)) m work
    part_filled =
        let e = part.many in
        filled_is o (model p).shown r work part.across part.down (omega arith)
        ∙ ap (λ f. put (first_fault f (area r)) (λ k. code_at o (f k)) (area r) work) part.same
        ∙ ap (λ n. put (first_fault place n) (λ k. code_at o (place k)) n work) part.many

    holed_is : (x : Option Fault) (a : Result ℕ Refusal) (e : Refusal) (end : End) → a ≡ Err e → end ≡ ending None x → told e ≡ prepare.holed x → work' ≡ put x (λ k. code_at o (place k)) m work
        → count q ≡ up (count p) → model q ≡ model p → Wrote o model count end place m bytes p work out a q work' out
    holed_is None a e end r h t w c k = let z : ◌≡◌ {A = ℕ} 0 1 = cc in absurd (omega arith)
    holed_is (Some f) a e end r h t w c k = record {
      answers = ap outcome_of r ∙ t ∙ ap end_outcome (sym h);
      amounts = ap amount r ∙ ap (λ x. end_amount x (length bytes)) (sym h);
      fills = w ∙ ap (λ x. end_codes x (λ j. code_at o (place j)) m work) (sym h);
      writes = ap (λ x. end_bytes x bytes out) (sym h);
      counts = c ∙ ap (λ x. end_count x (count p)) (sym h);
      keeps = k;
    }

    -- the prepare of the part told a hole
    pub holed-wrote : (a : Result ℕ Refusal) (e : Refusal) (end : End) → a ≡ Err e → end ≡ ending None (first_fault place m) → Prepared o model count p r work (Err e) q work'
        → Wrote o model count end place m bytes p work out a q work' out
    holed-wrote a e end t h d = holed_is (first_fault place m) a e end t h (d.answers ∙ part-answer) (d.fills ∙ part_filled) d.counts d.keeps

    -- the prepare of the part was done
    module _ (d : Prepared o model count p r work (Ok tt) q work') where
      pub clean : first_fault place m ≡ None
      clean = no_fault (first_fault place m) (d.answers ∙ part-answer)

      pub codes_are : work' ≡ put None (λ k. code_at o (place k)) m work
      codes_are = d.fills ∙ part_filled ∙ ap (λ x. put x (λ k. code_at o (place k)) m work) clean

      pub done_wrote : (end : End) (n : ℕ) (out' : List ℕ) → end ≡ ending None (first_fault place m) → n ≡ length bytes → out' ≡ over bytes out
          → Wrote o model count end place m bytes p work out (Ok n) q work' out'
      done_wrote end n out' h l w =
          let t : end ≡ wrote = h ∙ ap (ending None) clean in
          record {
            answers = ap end_outcome (sym t);
            amounts = l ∙ ap (λ x. end_amount x (length bytes)) (sym t);
            fills = codes_are ∙ ap (λ x. end_codes x (λ j. code_at o (place j)) m work) (sym t);
            writes = w ∙ ap (λ x. end_bytes x bytes out) (sym t);
            counts = d.counts ∙ ap (λ x. end_count x (count p)) (sym t);
            keeps = d.keeps;
          }
