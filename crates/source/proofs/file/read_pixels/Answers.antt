use Rattle.std.proofs.Common.{◌*◌, Some, sym, ap, ◌∙◌}
use Rattle.std.proofs.lemmas.List.{length-take-le}
use Rattle.std.specs.Option.{option_map}
use Rattle.store.specs.Cells.{capped}
use Rattle.source.specs.Files.{lack_cause}
use Rattle.source.proofs.Loads.{loaded_by}
use Rattle.source.proofs.file.read_pixels.Goals as goal

pub returns-in_default-Some : goal.returns-in_default-Some
returns-in_default-Some g c =
    let n = length-take-le (c.args.count * c.args.step) c.args.block.now c.requires.room in
    loaded_by (capped (g.S.Store.at c.args.store.now)) c.args.place c.args.step c.args.count _ c.read_some.result.0 c.read_some.new.buffer _ c.read_some.result.1 (Some c.cause_of.result)
    c.requires.some n c.read_some.auto.buffer c.read_some.ensures (ap Some c.cause_of.ensures ∙ sym (ap (option_map lack_cause) c.in_default-Some.is-1))
