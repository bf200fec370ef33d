use Rattle.std.proofs.Common.{ℕ, get_or, ◌+◌, ◌*◌, ◌≤◌, sym, ap, ◌∙◌, arith, rules}
use Rattle.pixel.specs.Ops.{joined}
use Rattle.source.specs.Raster.{sample_of, samples_of, under}
use Rattle.source.specs.Sampling.{behind_push, code_none, code_small, samples_more, under_push}
use Rattle.source.proofs.samples.pixel_code.Goals as goal

pub returns-then-value-maxval : goal.returns-then-value-maxval
returns-then-value-maxval g c =
    sym (code_none c.args.wide (λ j. get_or c.args.pixel.now j 0) g.K.Kind.ops c.args.maxval c.loop-k.k (omega arith) (omega (arith, c.sample-value.ensures)))

pub overflow_mul-code : goal.overflow_mul-code
overflow_mul-code g c =
    let few = g.met.K.Kind.few in
    let s = code_small c.args.wide (λ j. get_or c.args.pixel.now j 0) c.args.maxval c.loop-k.k c.loop-k.code (omega arith) (search rules) c.loop-k.invariant.0 c.loop-k.invariant.1 in
    search rules

pub overflow_add-code : goal.overflow_add-code
overflow_add-code g c =
    let few = g.met.K.Kind.few in
    let s = code_small c.args.wide (λ j. get_or c.args.pixel.now j 0) c.args.maxval c.loop-k.k c.loop-k.code (omega arith) (search rules) c.loop-k.invariant.0 c.loop-k.invariant.1 in
    search rules

pub loop-k-preserved : goal.loop-k-preserved
loop-k-preserved g c =
    let w = c.args.wide in
    let b = λ (j : ℕ). get_or c.args.pixel.now j 0 in
    let k = c.loop-k.k in
    let m : sample_of w b k ≤ c.args.maxval = omega (arith, c.sample-value.ensures) in (
      ap (under c.args.maxval) (samples_more w b k) ∙ under_push c.args.maxval (samples_of w b k) (sample_of w b k) c.loop-k.invariant.0 m,
      ap (λ x. x * 65536 + c.from.result) c.loop-k.invariant.1 ∙ ap (λ x. joined (samples_of w b k) * 65536 + x) (c.from.ensures ∙ c.sample-value.ensures)
          ∙ sym (ap joined (samples_more w b k) ∙ behind_push 0 (samples_of w b k) (sample_of w b k)),
    )
