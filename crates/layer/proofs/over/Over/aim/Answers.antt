use Rattle.std.proofs.Common.{◌+◌, ◌/◌, ◌≤◌, Some, arith, rules}
use Rattle.picture.specs.declared.step.Step.TheVariants.{Shrink}
use Rattle.layer.specs.declared.aim.Aim.TheVariants as aim
use Rattle.layer.specs.Stepping.{aims_shrink, as_step, boxes_inside}
use Rattle.layer.proofs.over.Over.aim.Goals as goal

pub boxes-requires-clause-right : goal.boxes-requires-clause-right
boxes-requires-clause-right c =
    let x : c.args.part.left + c.args.part.width ≤ c.args.self.size.width / c.in-Shrink.across = search rules in
    omega (arith, boxes_inside _ _ _ _ x)

pub boxes-requires-clause-bottom : goal.boxes-requires-clause-bottom
boxes-requires-clause-bottom c =
    let y : c.args.part.top + c.args.part.height ≤ c.args.self.size.height / c.in-Shrink.down = search rules in
    omega (arith, boxes_inside _ _ _ _ y)

pub returns-in-Shrink : goal.returns-in-Shrink
returns-in-Shrink c =
    let i = c.in-Shrink in
    let p = c.args.part in
    let some : 1 ≤ i.across = search rules in
    let x : p.left + p.width ≤ c.args.self.size.width / i.across = search rules in
    let y : p.top + p.height ≤ c.args.self.size.height / i.down = search rules in
    as_step (Some (aim.Mean c.boxes.result)) c.args.self.step (Shrink i.across i.down) c.args.self.size.width c.args.self.size.height p i.is
    (aims_shrink c.boxes.result i.across i.down c.args.self.size.width c.args.self.size.height p some c.boxes.ensures x y)
