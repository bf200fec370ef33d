use Rattle.std.proofs.Common.{◌≤◌, refl, rules}
use Rattle.layer.proofs.Aiming.{frames_boxes}
use Rattle.layer.proofs.aims.boxes.Goals as goal

pub returns : goal.returns
returns c =
    let f₁ : 1 ≤ c.args.across = search rules in
    let f₂ : c.args.across ≤ 64 = search rules in
    let g₁ : 1 ≤ c.args.down = search rules in
    let g₂ : c.args.down ≤ 64 = search rules in
    (frames_boxes _ c.args.across c.args.down c.args.part f₁ f₂ g₁ g₂ refl refl refl refl refl refl refl refl refl refl, refl, refl)
