use Rattle.std.proofs.Common.{◌-◌, sym, arith}
use Rattle.std.proofs.lemmas.List.{length-take-le}
use Rattle.source.proofs.Loads.{had_all, had_some, refused_at}
use Rattle.source.proofs.reads.read_some.Goals as goal

pub overflow_sub-n : goal.overflow_sub-n
overflow_sub-n g c = (refused_at _ _ _ _ _ c.in-Err.ensures.answer c.place.ensures).0

pub slice_bounds-read-end : goal.slice_bounds-read-end
slice_bounds-read-end g c =
    let k = refused_at _ _ _ _ _ c.in-Err.ensures.answer c.place.ensures in
    omega (arith, k.1, c.read.auto.buffer)

pub slice_bounds-read-end-in-Err : goal.slice_bounds-read-end-in-Err
slice_bounds-read-end-in-Err g c =
    let k = refused_at _ _ _ _ _ c.in-Err.ensures.answer c.place.ensures in
    sym (length-take-le (c.place.result - c.args.place) c.read.new.buffer (omega (arith, k.1, c.read.auto.buffer)))

pub returns-in-Ok : goal.returns-in-Ok
returns-in-Ok g c = had_all _ _ _ _ c.read.auto.buffer c.in-Ok.ensures.answer c.read.ensures.buffer

pub returns-in-Err : goal.returns-in-Err
returns-in-Err g c =
    let k = refused_at _ _ _ _ _ c.in-Err.ensures.answer c.place.ensures in
    had_some _ _ _ _ _ _ _ _ c.in-Err.ensures.answer c.place.ensures
    (length-take-le (c.place.result - c.args.place) c.read.new.buffer (omega (arith, k.1, c.read.auto.buffer))) c.read-in-Err.auto.buffer c.read-in-Err.ensures.buffer
