use Rattle.std.proofs.Common.{◌≡◌, length, min, take, ap, ◌∙◌, arith}
use Rattle.std.proofs.lemmas.List.{take_min}
use Rattle.source.specs.Header.{header_of}
use Rattle.source.specs.Limits.{header_limit}
use Rattle.source.proofs.Laws.{exact, refuses}
use Rattle.source.proofs.header.parse.Goals as goal

pub returns : goal.returns
returns c =
    let bytes = take header_limit c.args.bytes.now in
    let n : c.min-n.result ≡ min header_limit (length c.args.bytes.now) = omega arith in
    let i = ap (λ k. take k c.args.bytes.now) n ∙ take_min header_limit c.args.bytes.now in
    let e : c.decide.result ≡ header_of c.args.mark bytes = c.decide.ensures ∙ ap (header_of c.args.mark) i in
    record { automaton = e; grammar = exact c.args.mark bytes c.decide.result e; refused = refuses c.args.mark bytes c.decide.result e }
