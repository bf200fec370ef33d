use Rattle.std.proofs.Common.{◌≡◌, ◌*◌, drop}
use Rattle.picture.specs.Prepare.{Shown, area, nth}
use Rattle.picture.proofs.rows.fill.Given as goal

abbrev pub invariant-loop-j : goal.invariant-loop-j
invariant-loop-j g l =
    Shown g.R.Pixel.Kind.ops (nth (g.R.Rows.view l.initial.rows) l.rect) (l.j * l.rect.width) l.buffer
    × (drop (area l.rect) l.buffer ≡ drop (area l.rect) l.initial.buffer)
    × g.R.Rows.same l.initial.rows l.rows
