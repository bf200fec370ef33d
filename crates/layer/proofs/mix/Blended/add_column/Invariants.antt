use Rattle.std.proofs.Common.{◌≡◌}
use Rattle.layer.specs.Aims.{lens_pixel}
use Rattle.layer.specs.Sums.{downward}
use Rattle.layer.proofs.mix.Blended.add_column.Given as goal

abbrev pub invariant-loop-r : goal.invariant-loop-r
invariant-loop-r g l =
    l.sum ≡ downward g.K.Kind.ops (lens_pixel g.K.Kind.ops l.codes l.self.lens l.i l.j) (g.W.Weights.weighs l.self.filter.weights) l.self.lens.columns l.q l.initial.sum l.r
