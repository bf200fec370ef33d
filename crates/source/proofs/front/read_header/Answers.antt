use Rattle.std.proofs.Common.{◌≡◌, ◌≤◌, length, take, refl, ap, ◌∙◌}
use Rattle.std.proofs.lemmas.List.{take_all}
use Rattle.store.specs.Cells.{capped}
use Rattle.source.specs.Front.{available}
use Rattle.source.specs.Header.{header_of}
use Rattle.source.specs.Limits.{header_limit}
use Rattle.source.specs.declared.header.HeaderError.TheVariants.{End}
use Rattle.source.proofs.Fronting.{first_lack, front_had}
use Rattle.source.proofs.Laws.{exact, refuses}
use Rattle.source.proofs.front.read_header.Goals as goal

pub returns : goal.returns
returns g c =
    let at = capped (g.S.Store.at c.args.store.now) in
    let bytes = available at 0 header_limit in
    let r = c.parse.result in
    let k : take c.read_some-n.result.0 c.read_some-n.new.buffer ≡ bytes = front_had at header_limit c.read_some-n.result.0 c.read_some-n.new.buffer c.read_some-n.result.1 c.read_some-n.auto.buffer c.read_some-n.ensures in
    let l : length bytes ≤ header_limit = (first_lack at header_limit (length bytes) refl).within in
    let e : r ≡ header_of c.args.mark bytes =
    c.parse.ensures.automaton ∙ ap (header_of c.args.mark) (ap (take header_limit) k ∙ take_all header_limit bytes l) in
    let w = refuses c.args.mark bytes r e in
    record {
      automaton = e;
      grammar = exact c.args.mark bytes r e;
      refused = w;
      ended = λ p i. first_lack at header_limit p ((w.exactly (End p)).0 i).0;
    }
