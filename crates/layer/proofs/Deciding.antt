-- What stands at a place is decided by the places that it needs.
use Rattle.std.proofs.Common.{◌≡◌, ℕ, List, [], ◌∷◌, refl, ap, ◌∙◌}
use Rattle.pixel.specs.Ops.{Ops}
use Rattle.picture.specs.declared.step.Step.{Step}
use Rattle.picture.specs.Compose.{composed, pixel_or, summed, taken, tapped, unless}
use Rattle.picture.specs.Images.{Image}
use Rattle.picture.specs.Places.{Place, first_fault}
use Rattle.picture.specs.Region.{needed, region}
use Rattle.picture.specs.Steps.{Formula, black, white, copied, mixed, formula, height_of, width_of}
use Rattle.picture.proofs.Faults.{first_same}
use Rattle.layer.specs.Laws.{RegionDecides}
use Rattle.layer.proofs.Summing.{summed_same}

needed-map : (φ : Formula) (P Q : ℕ → ℕ → Type 0) → ((x y : ℕ) → P x y → Q x y) → needed φ P → needed φ Q
needed-map black P Q i h = tt
needed-map white P Q i h = tt
needed-map (copied x y) P Q i h = i x y h
needed-map (mixed n tap scale offset) P Q i h = λ k l. i _ _ (h k l)

module _ {K S : Type 0} (o : Ops K S) where
  same_taken : (m : ℕ) (f g : ℕ → ℕ → Place K) (φ : Formula) → needed φ (λ x y. f x y ≡ g x y) → taken o m f φ ≡ taken o m g φ
  same_taken m f g black h = refl
  same_taken m f g white h = refl
  same_taken m f g (copied x y) h = h
  same_taken m f g (mixed n tap scale offset) h =
      ap (λ z. unless z (o.finish (summed o (λ k. pixel_or o.black (tapped f tap k)) (λ k. (tap k).weight) n) scale offset m)) (first_same (tapped f tap) (tapped g tap) n h)
      ∙ ap (λ z. unless (first_fault (tapped g tap) n) (o.finish z scale offset m))
      (summed_same o (λ k. pixel_or o.black (tapped f tap k)) (λ k. pixel_or o.black (tapped g tap k)) (λ k. (tap k).weight) (λ k. (tap k).weight) n (λ k l. ap (pixel_or o.black) (h k l)) (λ k l. refl))

  same_sides : (ss : List Step) (a b : Image K) → a.width ≡ b.width → a.height ≡ b.height → ((composed o ss a).width ≡ (composed o ss b).width) × ((composed o ss a).height ≡ (composed o ss b).height)
  same_sides [] a b w h = (w, h)
  same_sides (s ∷ ss) a b w h =
      let r = same_sides ss a b w h in
      let W = (composed o ss b).width in
      let H = (composed o ss a).height in
      (ap (λ z. width_of s z H) r.0 ∙ ap (λ z. width_of s W z) r.1, ap (λ z. height_of s z H) r.0 ∙ ap (λ z. height_of s W z) r.1)

  same_maxval : (ss : List Step) (a b : Image K) → a.maxval ≡ b.maxval → (composed o ss a).maxval ≡ (composed o ss b).maxval
  same_maxval [] a b m = m
  same_maxval (s ∷ ss) a b m = same_maxval ss a b m

  decides : (ss : List Step) (a b : Image K) (u v : ℕ) → a.width ≡ b.width → a.height ≡ b.height → a.maxval ≡ b.maxval → region o ss a u v (λ x y. a.at x y ≡ b.at x y)
      → (composed o ss a).at u v ≡ (composed o ss b).at u v
  decides [] a b u v w h m r = r
  decides (s ∷ ss) a b u v w h m r =
      let p = composed o ss a in
      let q = composed o ss b in
      let z = same_sides ss a b w h in
      let φ = formula s p.width p.height u v in
      same_taken p.maxval p.at q.at φ (needed-map φ _ _ (λ x y k. decides ss a b x y w h m k) r)
      ∙ ap (λ k. taken o k q.at φ) (same_maxval ss a b m)
      ∙ ap (λ k. taken o q.maxval q.at (formula s k p.height u v)) z.0
      ∙ ap (λ k. taken o q.maxval q.at (formula s q.width k u v)) z.1

  pub region_decides : RegionDecides o
  region_decides ss u v a b h = decides ss a b u v h.width h.height h.maxval h.places
