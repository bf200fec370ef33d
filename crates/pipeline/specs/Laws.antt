-- Laws over whole runs: the source and the steps decide what a prepare answers, whatever was called before.
use Rattle.std.specs.Prelude.{◌≡◌, ℕ, List, length, take, Result}
use Rattle.pixel.specs.Ops.{Ops}
use Rattle.picture.specs.declared.fault.Refusal.{Refusal}
use Rattle.picture.specs.declared.rect.Rect.{Rect}
use Rattle.picture.specs.Refusals.{outcome}
use Rattle.picture.specs.Images.{Image, Model}
use Rattle.picture.specs.Region.{Alike}
use Rattle.picture.specs.Prepare.{area}
use Rattle.writer.specs.Log.{Log, whole, Answered}
use Rattle.pipeline.specs.Answer.{Fits}

module _ {P K S : Type 0} (o : Ops K S) (model : P → Model K) (count : P → ℕ) (bare : P → Type 0) where
  -- The law of answers, for a prepare of p. Let p have come from any picture, `new`, by any calls: prepares, forgets, strips and files, in any order, refused ones too.
  -- If the rectangle fits the picture composed from new's source by new's steps, that picture is answered:
  -- its pixels exactly when the rectangle has no hole, else the fault of the first hole in reading order.
  abbrev pub Answers : P → Rect → List ℕ → Result Unit Refusal → List ℕ → Type 0
  Answers p r before a after = (new : P) → Log o model count bare new p → Fits (whole o model count bare new) r before → Answered o (whole o model count bare new) r before a after

  -- every log that led to p goes on to q
  abbrev pub GoesOn : P → P → Type 0
  GoesOn p q = (new : P) → Log o model count bare new p → Log o model count bare new q

-- one rectangle was prepared twice, with answers s and t and the buffers a and b behind them
pub record Same {K : Type 0} (i : Image K) (r : Rect) (before : List ℕ) (s t : Result Unit Refusal) (a b : List ℕ) : Type 0 where
  -- both done, or both refused with the same number and fault
  pub outcomes : outcome s ≡ outcome t
  -- past 10 and 11 the same entries: the pixels, or zeros where there is a hole
  pub entries : Fits i r before → take (area r) a ≡ take (area r) b

module _ {P Q K S : Type 0} (o : Ops K S) (model : P → Model K) (count : P → ℕ) (bare : P → Type 0) (model' : Q → Model K) (count' : Q → ℕ) (bare' : Q → Type 0) where
  -- The law of two pipelines, for prepares of one rectangle of p and of q. Let p and q have come from any pictures, x and y, each by any calls of its own.
  -- If x and y have equal steps, and their sources agree in size, maxval and the pixel or fault of each place in the rectangle's region, equally long buffers get the same answer.
  -- So nothing else matters: not what the caches hold, not the sources' other places, not what came before.
  abbrev pub Agree : P → Q → Rect → List ℕ → List ℕ → Result Unit Refusal → Result Unit Refusal → List ℕ → List ℕ → Type 0
  Agree p q r a b s t a' b' =
      (x : P) (y : Q) → Log o model count bare x p → Log o model' count' bare' y q
      → (model x).steps ≡ (model' y).steps → Alike o (model x).steps r (model x).source (model' y).source → length a ≡ length b
      → Same (whole o model count bare x) r a s t a' b'
