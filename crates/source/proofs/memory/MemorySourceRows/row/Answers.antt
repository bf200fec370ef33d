use Rattle.std.proofs.Common.{◌≡◌, ◌+◌, length, subst, sym, ap, ◌∙◌, arith}
use Rattle.picture.specs.declared.fault.Cause.TheVariants.{NoPixel}
use Rattle.picture.specs.Prepare.{Shown, lined, or_fault}
use Rattle.picture.proofs.Faults.{shown_clean}
use Rattle.source.specs.Files.{fault_at}
use Rattle.source.specs.Memory.{remembered_of}
use Rattle.source.specs.Rasters.{first_at}
use Rattle.source.specs.Remembering.{row_hole, row_more}
use Rattle.source.proofs.memory.MemorySourceRows.row.Goals as goal

pub returns-then-not-is_pixel-clause-answer : goal.returns-then-not-is_pixel-clause-answer
returns-then-not-is_pixel-clause-answer g c =
    let o = g.K.Kind.ops in
    let self = c.args.self.now in
    let f = lined (remembered_of o g.C.Codes.codes self) c.args.left c.args.row in
    ap or_fault (sym (first_at o f c.loop-k.k (length c.args.out.now) (fault_at self.source (c.args.left + c.loop-k.k) c.args.row NoPixel) (omega arith)
    (shown_clean o f c.loop-k.k c.loop-k.out c.loop-k.invariant)
    (row_hole o (g.C.Codes.codes self.codes) self.size self.source c.args.left c.args.row c.loop-k.k c.get-code.result c.get-code.ensures (sym c.is_pixel.ensures ∙ c.if-not-is_pixel.true))))

pub loop-k-preserved : goal.loop-k-preserved
loop-k-preserved g c =
    let self = c.args.self.now in
    row_more g.K.Kind.ops (g.C.Codes.codes self.codes) self.size self.source c.args.left c.args.row c.loop-k.k c.get-code.result c.loop-k.out
    g.met.K.Kind.recodes c.get-code.ensures (sym c.is_pixel.ensures ∙ c.if-not-is_pixel.false) (omega arith) c.loop-k.invariant

pub returns-clause-answer : goal.returns-clause-answer
returns-clause-answer g c =
    let f = lined (remembered_of g.K.Kind.ops g.C.Codes.codes c.args.self.now) c.args.left c.args.row in
    let e : c.loop-k.k ≡ length c.args.out.now = omega arith in
    ap or_fault (sym (shown_clean g.K.Kind.ops f (length c.args.out.now) c.loop-k.out (subst (λ n. Shown g.K.Kind.ops f n c.loop-k.out) e c.loop-k.invariant)))
