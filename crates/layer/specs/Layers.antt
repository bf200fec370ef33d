-- What a layer means, and what making one answers.
use Rattle.std.specs.Prelude.{◌≡◌, ℕ, zero, suc, cond, ◌&&◌, [], Ok, Err, Result}
use Rattle.pixel.specs.Ops.{Ops}
use Rattle.picture.specs.declared.fault.Fault.{Fault}
use Rattle.picture.specs.declared.fault.Refused.{Refused}
use Rattle.picture.specs.declared.step.Step.{Step}
use Rattle.picture.specs.declared.step.Step.TheVariants.{Same}
use Rattle.picture.specs.Compose.{layered}
use Rattle.picture.specs.Images.{Model}
use Rattle.picture.specs.Places.{Place, pixel, hole}
use Rattle.picture.specs.Prepare.{up}
use Rattle.picture.specs.Refusals.{Outcome, done, refused, told}
use Rattle.picture.specs.Steps.{allowed, fitting}
use Rattle.layer.specs.Layered.{Layered}

-- 5 where a number of the step is outside its limits, 7 where it does not fit
abbrev pub standing : Step → ℕ → ℕ → Outcome
standing s W H = cond (allowed s) (cond (fitting s W H) done (refused 7 [])) (refused 5 [])

-- a count after n more prepares
abbrev pub raised : ℕ → ℕ → ℕ
raised zero c = c
raised (suc n) c = up (raised n c)

-- the code at a place, or its fault
abbrev pub located : {K S : Type 0} → Ops K S → Place K → Result ℕ Fault
located o (pixel p) = Ok (o.code p)
located o (hole f) = Err f

-- the step where it can stand over a picture with these sides, as that of each layer can
abbrev pub standing_step : Step → ℕ → ℕ → Step
standing_step s W H = cond (allowed s && fitting s W H) s Same

-- a step laid over a picture that it can stand over
abbrev pub laid_over : {K S : Type 0} → Ops K S → Step → Model K → Model K
laid_over o s m = layered o (standing_step s m.shown.width m.shown.height) m

module _ {P K S : Type 0} (o : Ops K S) (model : P → Model K) where
  abbrev pub model_of : Layered P → Model K
  model_of l = laid_over o l.over.step (model l.below)

  -- the step over the picture as it was, which no prepare has been made of; or the picture back, and why
  abbrev pub Made : P → Step → Result (Layered P) (Refused P) → Type 0
  Made p s (Ok l) = (l.below ≡ p) × (model_of l ≡ layered o s (model p)) × (l.count ≡ 0) × (standing s (model p).shown.width (model p).shown.height ≡ done)
  Made p s (Err e) = (e.back ≡ p) × (standing s (model p).shown.width (model p).shown.height ≡ told e.refusal)

  -- the second differs from the first only in what asking below may change
  pub record Kept (counted : P → ℕ) (l m : Layered P) : Type 0 where
    pub shows : model l.below ≡ model m.below
    pub step : l.over.step ≡ m.over.step
    pub size : l.over.size ≡ m.over.size
    pub count : l.count ≡ m.count
    pub times : ℕ
    pub asked : counted m.below ≡ raised times (counted l.below)
