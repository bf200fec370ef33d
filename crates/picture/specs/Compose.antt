-- The picture composed from a source by steps.
use Rattle.std.specs.Prelude.{◌≡◌, ℕ, zero, suc, List, [], ◌∷◌, ℤ, Some, None, Option}
use Rattle.pixel.specs.Ops.{Ops}
use Rattle.picture.specs.declared.fault.Fault.{Fault}
use Rattle.picture.specs.declared.step.Step.{Step}
use Rattle.picture.specs.Places.{Place, pixel, hole, first_fault}
use Rattle.picture.specs.Images.{Image, Model}
use Rattle.picture.specs.Steps.{Tap, Formula, black, white, copied, mixed, formula, width_of, height_of}

-- the place below that a tap names
abbrev pub tapped : {K : Type 0} → (ℕ → ℕ → Place K) → (ℕ → Tap) → ℕ → Place K
tapped at tap k = at (tap k).column (tap k).row

-- a pixel for a sum; no sum is finished that holds the one in the place of a hole
abbrev pub pixel_or : {K : Type 0} → K → Place K → K
pixel_or d (pixel p) = p
pixel_or d (hole f) = d

-- a hole if there is a fault, else the pixel
abbrev pub unless : {K : Type 0} → Option Fault → K → Place K
unless None p = pixel p
unless (Some f) p = hole f

module _ {K S : Type 0} (o : Ops K S) where
  -- the sum of the first n pixels by their weights
  abbrev pub summed : (ℕ → K) → (ℕ → ℤ) → ℕ → S
  summed p w zero = o.empty
  summed p w (suc n) = o.more (summed p w n) (p n) (w n)

  -- what a formula makes of the places below: a hole exactly when a place that it names is one, with the first one's fault
  abbrev pub taken : ℕ → (ℕ → ℕ → Place K) → Formula → Place K
  taken maxval at black = pixel o.black
  taken maxval at white = pixel (o.white maxval)
  taken maxval at (copied x y) = at x y
  taken maxval at (mixed n tap scale offset) =
      unless (first_fault (tapped at tap) n) (o.finish (summed (λ k. pixel_or o.black (tapped at tap k)) (λ k. (tap k).weight) n) scale offset maxval)

  -- one step over a picture
  abbrev pub stepped : Step → Image K → Image K
  stepped s i = record {
    width = width_of s i.width i.height;
    height = height_of s i.width i.height;
    maxval = i.maxval;
    at = λ u v. taken i.maxval i.at (formula s i.width i.height u v);
  }

  -- the last step stands first in the list
  abbrev pub composed : List Step → Image K → Image K
  composed [] source = source
  composed (s ∷ ss) source = stepped s (composed ss source)

  -- a step laid over a picture, which keeps the picture's steps and source
  abbrev pub layered : Step → Model K → Model K
  layered s m = record { shown = stepped s m.shown; steps = s ∷ m.steps; source = m.source }

  -- the picture is the one composed from its source by its steps
  abbrev pub Composed : Model K → Type 0
  Composed m = m.shown ≡ composed m.steps m.source
