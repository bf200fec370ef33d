use Rattle.reread.proofs.Places.{Laws}
use Rattle.reread.proofs.Openings.{reads_back, written-again}
use Rattle.reread.proofs.open.Goals as goal

pub returns : goal.returns
returns g c =
    let o = g.K.Kind.ops in
    let k = g.met.K.Kind in
    let laws : Laws o = record { decodes = k.decodes; coded = k.coded; some = k.few.0; deep = k.deep; sampled = k.sampled; fits = k.fits } in
    let v = c.open.ensures.value in
    record {
      value = v;
      written = reads_back o laws g.S.Store.at c.args.store c.args.number c.open.result v;
      again = written-again o laws g.S.Store.at c.args.store c.args.number c.open.result v;
    }
