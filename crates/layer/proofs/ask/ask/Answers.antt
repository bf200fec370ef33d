use Rattle.layer.proofs.Asking.{asked_ok, asked_shown}
use Rattle.layer.proofs.ask.ask.Goals as goal

pub returns-in-Ok-clause-shown : goal.returns-in-Ok-clause-shown
returns-in-Ok-clause-shown g c z =
    let i = (g.P.Picture.model c.args.below.now).shown in
    asked_shown g.P.Pixel.Kind.ops i c.args.at _ _ c.requires.inside c.requires.room (asked_ok g.P.Pixel.Kind.ops i c.args.at _ c.requires.inside c.requires.room c.in-Ok.ensures.answers) c.prepare.ensures.fills
