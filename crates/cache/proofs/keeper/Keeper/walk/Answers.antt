use Rattle.std.proofs.Common.{◌+◌, ◌-◌, ◌*◌, ◌<◌, drop, Err, sym, ap, ◌∙◌, subst, arith}
use Rattle.std.proofs.lemmas.Result.{err_from_is_err_and}
use Rattle.std.proofs.lemmas.List.{take_all, length-drop, length-take-le}
use Rattle.cache.specs.declared.tile.Tile.{Tile}
use Rattle.cache.specs.Order.{slot_at}
use Rattle.cache.specs.Grid.{touched, across, down}
use Rattle.cache.proofs.Keeping.{small_area}
use Rattle.cache.proofs.Walking.{number, Touched, touches, row_done, all_done, went_more, went_ended, Sofar, covers_in, further}
use Rattle.cache.proofs.keeper.Keeper.walk.Given.{Over}
use Rattle.cache.proofs.keeper.Keeper.walk.Goals as goal
use Rattle.cache.proofs.keeper.Keeper.walk.Goals.{In-loop-column}

-- the tile that the loops have come to
touching : (g : Over) (c : In-loop-column g) → Touched c.args.self.now.shape c.args.rect (record { column = c.loop-column.column; row = c.loop-row.row })
touching g c = touches c.args.self.now.shape c.args.rect _ c.loop-column.auto.column (omega (arith, c.reach-across.ensures.is)) c.loop-row.auto.row (omega (arith, c.reach-down.ensures.is))

pub cell-place-requires : goal.cell-place-requires
cell-place-requires g c =
    let t = touching g (goal.at.cell-place-requires g c).In-loop-column in
    record { across = omega (arith, t.left, c.requires.across); down = omega (arith, t.top, c.requires.down) }

pub returns-in_err-visit-clause-went : goal.returns-in_err-visit-clause-went
returns-in_err-visit-clause-went g c =
    let was = c.args.self.now in
    let rect = c.args.rect in
    let t = touching g (goal.at.returns-in_err-visit-clause-went g c).In-loop-column in
    let n = number was.shape rect c.loop-column.column c.loop-row.row in
    let p = err_from_is_err_and c.from_residual.result c.from_residual.ensures.1 in
    let w = went_more (touched was.shape rect) was c.loop-column.self c.visit.new.self n _ c.visit.result t.is c.loop-column.invariant.went c.visit.ensures.went in
    went_ended (touched was.shape rect) was c.visit.new.self (n + 1) (across was.shape rect * down was.shape rect) c.visit.result c.from_residual.result p.0
    (c.in_err-visit.was ∙ ap Err (sym p.2)) p.1 t.next w

pub overlay-requires-clause-from : goal.overlay-requires-clause-from
overlay-requires-clause-from g c =
    let t = c.visit.new.self.tiles in
    let start = c.base-start.result in
    let ready = c.visit.new.self.ready in
    let low : slot_at t.held 0 < 17 = ready.own 0 (omega arith) in
    let x : Tile = record { column = c.loop-column.column; row = c.loop-row.row } in
    let long = length-drop start t.entries in
    omega (arith, c.base-start.ensures, ready.room, long, length-take-le (4352 - start) (drop start t.entries) (omega (arith, ready.room, long)), small_area c.args.self.now.shape _ _ x c.cell-place.result c.cell-place.ensures)

pub loop-column-preserved : goal.loop-column-preserved
loop-column-preserved g c =
    let was = c.args.self.now in
    let e = c.visit.new.self in
    let t = touching g (goal.at.loop-column-preserved g c).In-loop-column in
    let start = c.base-start.result in
    further c.args.rect was c.args.buffer.now (omega (arith, c.requires.across, c.requires.wide)) (omega (arith, c.requires.down, c.requires.high))
    (number was.shape c.args.rect c.loop-column.column c.loop-row.row) _ (omega (arith, c.loop-column.auto.column)) c.loop-column.self e _ c.cell-place.result c.loop-column.buffer _ c.overlay.new.to c.loop-column.invariant t.is
    c.in_ok-visit.ensures.went c.in_ok-visit.ensures.front (covers_in was.shape _ _ _ _ _ c.cell-place.result c.requires.wide c.requires.high c.cell-place.ensures)
    (take_all (4352 - start) (drop start e.tiles.entries) (omega (arith, length-drop start e.tiles.entries, e.ready.room)) ∙ ap (λ n. drop n e.tiles.entries) c.base-start.ensures) c.overlay.ensures

pub loop-row-preserved : goal.loop-row-preserved
loop-row-preserved g c =
    subst (λ n. Sofar c.args.rect c.args.self.now c.args.buffer.now n c.loop-column.self c.loop-column.buffer)
    (row_done c.args.self.now.shape c.args.rect c.loop-column.column c.loop-row.row (omega (arith, c.reach-across.ensures.is)) c.loop-row.auto.row) c.loop-column.invariant

pub returns-clause-served : goal.returns-clause-served
returns-clause-served g c x y w lt =
    c.loop-row.invariant.served x y w (omega (arith, lt, all_done c.args.self.now.shape c.args.rect c.loop-row.row (omega (arith, c.reach-down.ensures.is))))
