use Rattle.std.proofs.Common.{sym, refl, ◌∙◌, inl, inr, to_z-of_z, w32, SFits, rules}
use Rattle.layer.proofs.Embedding.{Shows, is_copy, is_edge, spreads_moved}
use Rattle.layer.proofs.aims.placed.Goals as goal
use Rattle.layer.proofs.aims.placed.Goals.{then-is_beside+in-Copy, else-is_beside+else-is_beside-2}

pub returns-in_err-across : goal.returns-in_err-across
returns-in_err-across c =
    let p = c.args.part in
    let W = c.args.size.width in
    let H = c.args.size.height in
    let fx : SFits w32 c.args.x = search rules in
    let fy : SFits w32 c.args.y = search rules in
    let sh : Shows c.args.x c.args.y W H p c.spread-across.result c.spread-down.result c.args.fill =
    elim c.if-is_beside.branch [
      | then-is_beside+in-Copy w ↦ inl w.in-Copy.is
      | else-is_beside+else-is_beside-2 w ↦ inr (sym c.is_beside.ensures ∙ w.if-is_beside.false, sym w.is_beside-else-is_beside.ensures ∙ w.if-is_beside-2.false)
    ] in
    is_edge c.args.x c.args.y W H p _ _ _ c.args.fill c.from_residual.ensures sh
    (spreads_moved _ p.left _ c.args.x p.width W (to_z-of_z fx) c.spread-across.ensures)
    (spreads_moved _ p.top _ c.args.y p.height H (to_z-of_z fy) c.spread-down.ensures) (inl (c.in_err-across.was))

pub returns-in_err-down : goal.returns-in_err-down
returns-in_err-down c =
    let p = c.args.part in
    let W = c.args.size.width in
    let H = c.args.size.height in
    let fx : SFits w32 c.args.x = search rules in
    let fy : SFits w32 c.args.y = search rules in
    let sh : Shows c.args.x c.args.y W H p c.spread-across.result c.spread-down.result c.args.fill =
    elim c.if-is_beside.branch [
      | then-is_beside+in-Copy w ↦ inl w.in-Copy.is
      | else-is_beside+else-is_beside-2 w ↦ inr (sym c.is_beside.ensures ∙ w.if-is_beside.false, sym w.is_beside-else-is_beside.ensures ∙ w.if-is_beside-2.false)
    ] in
    is_edge c.args.x c.args.y W H p _ _ _ c.args.fill c.from_residual-in_err-down.ensures sh
    (spreads_moved _ p.left _ c.args.x p.width W (to_z-of_z fx) c.spread-across.ensures)
    (spreads_moved _ p.top _ c.args.y p.height H (to_z-of_z fy) c.spread-down.ensures) (inr (c.in_err-down.was))

pub returns : goal.returns
returns c =
    let p = c.args.part in
    let W = c.args.size.width in
    let H = c.args.size.height in
    let fx : SFits w32 c.args.x = search rules in
    let fy : SFits w32 c.args.y = search rules in
    let sh : Shows c.args.x c.args.y W H p c.spread-across.result c.spread-down.result c.args.fill =
    elim c.if-is_beside.branch [
      | then-is_beside+in-Copy w ↦ inl w.in-Copy.is
      | else-is_beside+else-is_beside-2 w ↦ inr (sym c.is_beside.ensures ∙ w.if-is_beside.false, sym w.is_beside-else-is_beside.ensures ∙ w.if-is_beside-2.false)
    ] in
    is_copy c.args.x c.args.y W H p _ _ c.in_ok-across.across c.in_ok-down.down _ c.args.fill c.in_ok-across.was c.in_ok-down.was sh
    (spreads_moved _ p.left _ c.args.x p.width W (to_z-of_z fx) c.spread-across.ensures)
    (spreads_moved _ p.top _ c.args.y p.height H (to_z-of_z fy) c.spread-down.ensures)
    refl refl refl refl refl refl refl refl refl
