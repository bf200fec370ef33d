use Rattle.std.proofs.Common.{subst, arith}
use Rattle.store.specs.Cells.{capped}
use Rattle.source.specs.Front.{beginning}
use Rattle.source.specs.Limits.{header_limit}
use Rattle.source.specs.Reading.{Starts}
use Rattle.source.proofs.Fronting.{available_long}
use Rattle.source.proofs.file.FileSource.open.Goals as goal

pub invariant_of-result : goal.invariant_of-result
invariant_of-result g c =
    let a = ((c.read_header.ensures.grammar c.in-Ok-read_header.field-0).0 c.in-Ok-read_header.is).allowed in
    record { wide = a.0.0; high = a.1.0; bright = a.2.0; across = a.0.1; down = a.1.1; fits = a.2.1 }

pub invariant_of-result-in-Ok-read_header : goal.invariant_of-result-in-Ok-read_header
invariant_of-result-in-Ok-read_header g c =
    let s = (c.read_header.ensures.grammar c.in-Ok-read_header.field-0).0 c.in-Ok-read_header.is in
    omega (arith, s.within, available_long (capped (g.S.Store.at c.args.store)) 0 header_limit)

pub returns-in-Ok-read_header-clause-law : goal.returns-in-Ok-read_header-clause-law
returns-in-Ok-read_header-clause-law g c =
    let h = c.in-Ok-read_header.field-0 in
    subst (λ m. Starts m (beginning (g.S.Store.at c.args.store)) c.in-Ok-read_header.field-0) c.mark.ensures ((c.read_header.ensures.grammar h).0 c.in-Ok-read_header.is)
