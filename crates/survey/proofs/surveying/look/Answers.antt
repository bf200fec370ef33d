use Rattle.std.proofs.Common.{length, sym, ap}
use Rattle.picture.specs.Prepare.{or_fault}
use Rattle.survey.proofs.Looking.{Row, flat_done, flat_hole, flat_shown}
use Rattle.survey.proofs.surveying.look.Goals as goal

pub returns-in-Ok-clause-answer : goal.returns-in-Ok-clause-answer
returns-in-Ok-clause-answer g c =
    let i = (g.P.Picture.model c.args.picture.now).shown in
    let r = c.args.part in
    let n = length c.args.buffer.now in
    let h : Row i r n = record { flat = c.requires.flat; across = c.requires.across; down = c.requires.down; room = c.requires.room } in
    ap or_fault (sym (flat_done i r n h c.in-Ok.ensures.answers))

pub returns-in-Ok-clause-codes : goal.returns-in-Ok-clause-codes
returns-in-Ok-clause-codes g c = λ _.
    let i = (g.P.Picture.model c.args.picture.now).shown in
    let r = c.args.part in
    let before = c.args.buffer.now in
    let h : Row i r (length before) = record { flat = c.requires.flat; across = c.requires.across; down = c.requires.down; room = c.requires.room } in
    flat_shown g.P.Pixel.Kind.ops i r before c.prepare.new.buffer h c.prepare.ensures.fills (flat_done i r (length before) h c.in-Ok.ensures.answers)

pub returns-in-Err-Hole-clause-answer : goal.returns-in-Err-Hole-clause-answer
returns-in-Err-Hole-clause-answer g c =
    let i = (g.P.Picture.model c.args.picture.now).shown in
    let r = c.args.part in
    let n = length c.args.buffer.now in
    let h : Row i r n = record { flat = c.requires.flat; across = c.requires.across; down = c.requires.down; room = c.requires.room } in
    flat_hole i r n c.prepare.result c.in-Err-Hole.field-0 c.in-Err-Hole.fault h c.in-Err-Hole.is c.in-Err-Hole.field-0-is c.prepare.ensures.answers
