-- The step of a layer can stand over the picture below.
use Rattle.std.specs.Prelude.{◌≡◌, ℕ, Bool, true, false, cond, ◌&&◌, refl}
use Rattle.std.proofs.lemmas.Bool.{and_parts}
use Rattle.picture.specs.declared.step.Step.{Step}
use Rattle.picture.specs.declared.step.Step.TheVariants.{Same}
use Rattle.picture.specs.Steps.{allowed, fitting}
use Rattle.layer.specs.Layers.{standing_step}

-- what holds of the step where it can stand, and of the one that changes nothing
either : (b : Bool) (s : Step) (Q : Step → Type 0) → (b ≡ true → Q s) → Q Same → Q (cond b s Same)
either true s Q f h = f refl
either false s Q f h = h

pub standing_allowed : (s : Step) (W H : ℕ) → allowed (standing_step s W H) ≡ true
standing_allowed s W H = either (allowed s && fitting s W H) s (λ t. allowed t ≡ true) (λ e. (and_parts (allowed s) (fitting s W H) e).0) refl

pub standing_fits : (s : Step) (W H : ℕ) → fitting (standing_step s W H) W H ≡ true
standing_fits s W H = either (allowed s && fitting s W H) s (λ t. fitting t W H ≡ true) (λ e. (and_parts (allowed s) (fitting s W H) e).1) refl
