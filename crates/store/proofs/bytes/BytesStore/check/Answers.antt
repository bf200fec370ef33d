use Rattle.std.proofs.Common.{Err, sym, ap, ◌∙◌, arith}
use Rattle.store.specs.declared.lack.Lack.TheVariants.{Missing}
use Rattle.store.proofs.Slices.{all_bytes, cut_off}
use Rattle.store.proofs.bytes.BytesStore.check.Goals as goal

pub returns-then-count-saturating_sub : goal.returns-then-count-saturating_sub
returns-then-count-saturating_sub c = sym (all_bytes c.args.self.now.bytes.now c.args.place c.args.count (omega arith))

pub returns-else-count-saturating_sub : goal.returns-else-count-saturating_sub
returns-else-count-saturating_sub c =
    ap (λ z. Err (Missing z)) c.max.ensures
    ∙ sym (cut_off c.args.self.now.bytes.now c.args.place c.args.count c.min-end.result (omega arith) (omega arith))
