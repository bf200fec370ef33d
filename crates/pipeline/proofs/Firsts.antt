-- What a prepare answers behind any log of calls.
use Rattle.std.proofs.Common.{◌≡◌, ℕ, ◌+◌, ◌≤◌, List, length, Result, refl, ap, ◌∙◌, subst, arith}
use Rattle.pixel.specs.Ops.{Ops}
use Rattle.picture.specs.declared.fault.Refusal.{Refusal}
use Rattle.picture.specs.declared.rect.Rect.{Rect}
use Rattle.picture.specs.Places.{first_fault}
use Rattle.picture.specs.Images.{Image, Model}
use Rattle.picture.specs.Compose.{Composed}
use Rattle.picture.specs.Prepare.{area, nth, Prepared}
use Rattle.picture.proofs.Serving.{answer_is, filled_is}
use Rattle.writer.specs.Log.{Log, whole, Answered}
use Rattle.writer.proofs.Firsts.{answered}
use Rattle.writer.proofs.Logs.{logged}
use Rattle.pipeline.specs.Laws.{Answers}

module _ {P K S : Type 0} (o : Ops K S) (model : P → Model K) (count : P → ℕ) (bare : P → Type 0) (law : (p : P) → Composed o (model p)) where
  -- behind any log a picture shows what its source and steps make
  pub shows : (new p : P) → Log o model count bare new p → (model p).shown ≡ whole o model count bare new
  shows new p l = ap (λ (m : Model K). m.shown) (logged o model count bare new p l) ∙ law new

  pub answers : (p q : P) (r : Rect) (before after : List ℕ) (a : Result Unit Refusal) → Prepared o model count p r before a q after → Answers o model count bare p r before a after
  answers p q r before after a d new l f =
      let i = (model p).shown in
      let is : i ≡ whole o model count bare new = shows new p l in
      let x : r.left + r.width ≤ i.width = let e = ap (λ (z : Image K). z.width) is in let b = f.across in omega arith in
      let y : r.top + r.height ≤ i.height = let e = ap (λ (z : Image K). z.height) is in let b = f.down in omega arith in
      let D : Image K → Type 0 = λ z. Answered o z r before a after in
      subst D is (answered o i r before a after (first_fault (nth i r) (area r)) refl (d.answers ∙ answer_is i r (length before) x y f.room) (d.fills ∙ filled_is o i r before x y f.room))
