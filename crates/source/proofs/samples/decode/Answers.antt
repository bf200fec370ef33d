use Rattle.std.proofs.Common.{◌-◌, ◌*◌, ◌≡◌, ◌≢◌, ℕ, List, length, get_or, take, drop, Some, ◌≤◌, mul_comm, subst, sym, ap, ◌∙◌, arith, get_or-set_other, get_or-set_same, below_more}
use Rattle.std.proofs.Math.Path.{fun_ext}
use Rattle.std.proofs.lemmas.Nat.{row_fits_turned}
use Rattle.std.proofs.lemmas.List.{length-drop, get_or-drop, take_all}
use Rattle.source.specs.Raster.{code_of, from, sample_bytes, wide}
use Rattle.source.proofs.Widths.{same_width}
use Rattle.source.proofs.samples.decode.Goals as goal

-- the bytes from s on
rest_long : (bytes : List ℕ) (s : ℕ) → length (take (length bytes - s) (drop s bytes)) ≡ length bytes - s
rest_long bytes s = ap length (take_all (length bytes - s) (drop s bytes) (omega (arith, length-drop s bytes))) ∙ length-drop s bytes

rest_from : (bytes : List ℕ) (s : ℕ) → (λ (j : ℕ). get_or (take (length bytes - s) (drop s bytes)) j 0) ≡ from bytes s
rest_from bytes s =
    fun_ext (λ j. ap (λ x. get_or x j 0) (take_all (length bytes - s) (drop s bytes) (omega (arith, length-drop s bytes))) ∙ get_or-drop s bytes j 0)

pub returns-in_default : goal.returns-in_default
returns-in_default g c =
    let o = g.K.Kind.ops in
    let m = c.args.maxval in
    let k = c.loop-k.k in
    let same = c.pixel_bytes-step.ensures.value ∙ same_width o m in
    record {
      within = omega arith;
      taken = λ j h. let ne : j ≢ k = omega arith in c.loop-k.invariant.1 j h ∙ ap Some (sym (get_or-set_other _ k j _ 0 ne));
      next = λ _. ap (λ s. code_of o (wide m) m (from c.args.bytes.now (k * s))) (sym same) ∙ ap (λ s. code_of o (wide m) m (from c.args.bytes.now s)) (sym c.loop-k.invariant.0)
          ∙ ap (code_of o (wide m) m) (sym (rest_from c.args.bytes.now c.loop-k.at)) ∙ sym c.in_default.ensures;
    }

pub loop-k-preserved : goal.loop-k-preserved
loop-k-preserved g c =
    let o = g.K.Kind.ops in
    let m = c.args.maxval in
    let same = c.pixel_bytes-step.ensures.value ∙ same_width o m in (
      omega (arith, c.loop-k.invariant.0),
      below_more _ _
          (λ j h. let ne : j ≢ c.loop-k.k = omega arith in c.loop-k.invariant.1 j h ∙ ap Some (sym (get_or-set_other _ c.loop-k.k j _ 0 ne)))
          (ap (λ s. code_of o (wide m) m (from c.args.bytes.now (c.loop-k.k * s))) (sym same) ∙ ap (λ s. code_of o (wide m) m (from c.args.bytes.now s)) (sym c.loop-k.invariant.0)
          ∙ ap (code_of o (wide m) m) (sym (rest_from c.args.bytes.now c.loop-k.at)) ∙ sym c.in-Some.ensures
          ∙ ap Some (sym (get_or-set_same _ c.loop-k.k _ 0 (omega arith)))),
    )

-- the bytes of the next pixel are there
pub pixel_code-requires : goal.pixel_code-requires
pixel_code-requires g c =
    let o = g.K.Kind.ops in
    let m = c.args.maxval in
    let same = c.pixel_bytes-step.ensures.value ∙ same_width o m in
    let w : o.depth * sample_bytes (wide m) ≡ c.pixel_bytes-step.result = sym same in
    let h = row_fits_turned c.loop-k.k c.pixel_bytes-step.result c.pixel_bytes-step.result (length c.args.out.now) (omega arith) (omega arith) in
    let r : length c.args.out.now * c.pixel_bytes-step.result ≤ length c.args.bytes.now = subst (λ s. length c.args.out.now * s ≤ length c.args.bytes.now) w c.requires in
    let l = rest_long c.args.bytes.now c.loop-k.at in
    omega (arith, w, h, r, l, c.loop-k.invariant.0, mul_comm c.pixel_bytes-step.result (length c.args.out.now))
