use Rattle.std.proofs.Common.{length, sym, arith, rules}
use Rattle.store.proofs.Slices.{range, copied}
use Rattle.store.proofs.bytes.BytesStore.read.Goals as goal

pub overflow_add-start : goal.overflow_add-start
overflow_add-start c =
    let h = range c.args.self.now.bytes.now c.args.place (length c.args.buffer.now) (sym c.in_ok-check.ensures) c.if-count-gt0.true in
    let below = h.1 in search rules

pub slice_bounds-copy_from_slice-end : goal.slice_bounds-copy_from_slice-end
slice_bounds-copy_from_slice-end c =
    let h = range c.args.self.now.bytes.now c.args.place (length c.args.buffer.now) (sym c.in_ok-check.ensures) c.if-count-gt0.true in
    let inside = h.0 in search rules

pub returns-then-count-gt0-clause-buffer : goal.returns-then-count-gt0-clause-buffer
returns-then-count-gt0-clause-buffer c =
    copied c.args.self.now.bytes.now c.args.place _ c.args.buffer.now c.copy_from_slice.new.self
    (sym c.in_ok-check.ensures) c.if-count-gt0.true (omega arith) c.copy_from_slice.ensures.after
