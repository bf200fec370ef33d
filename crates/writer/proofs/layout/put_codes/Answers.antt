use Rattle.std.proofs.Common.{◌≡◌, ◌-◌, ◌*◌, ◌<◌, length, get_or, take, drop, Option, sym, ap, ◌∙◌, subst, arith}
use Rattle.std.specs.List.{range_with_len, flat_map}
use Rattle.writer.specs.File.{pixel_width}
use Rattle.writer.specs.Layout.{code_bytes, decoded_bytes, Known}
use Rattle.writer.proofs.Joins.{length-code_bytes, times_more, room, over_turn, by_place}
use Rattle.writer.specs.Calls.{over}
use Rattle.writer.proofs.layout.put_codes.Goals as goal
use Rattle.writer.proofs.layout.put_codes.Goals.{in-Some, in_default}

pub loop-code-preserved : goal.loop-code-preserved
loop-code-preserved g c =
    let o = g.K.Kind.ops in
    let m = c.args.maxval in
    let k = c.loop-code.code-index in
    let cs = c.args.codes.now in
    let n = pixel_width o m in
    let h : k < length cs = omega arith in
    let r = room k (length cs) n h in
    elim c.match-decode.branch [
      | in-Some w ↦
          let d : o.decode (get_or cs k 0) ≡ _ = sym c.decode.ensures ∙ w.in-Some.is in
          let rest = take (length c.loop-code.out - c.loop-code.end) (drop c.loop-code.end c.loop-code.out) in (
            omega (arith, times_more k n, w.end-is, w.put_pixel-end.ensures.end, c.loop-code.invariant.0),
            w.out-is
                ∙ over_turn (λ j. code_bytes o m (get_or cs j 0)) n (λ j. length-code_bytes o g.met.K.Kind.deep m (get_or cs j 0)) c.args.out.now c.loop-code.out w.put_pixel-end.new.out
                k c.loop-code.end c.loop-code.invariant.0 (omega (arith, c.requires.room, c.loop-code.invariant.0)) c.loop-code.invariant.1
                (w.put_pixel-end.ensures.out ∙ ap (λ x. over (decoded_bytes o m x) rest) (sym d)),
          )
      | in_default w ↦
          let D : Option g.row.K.Denot → Type 0 = Known o m in
          absurd (subst D (sym c.decode.ensures ∙ w.in_default.is) (c.requires.known k h))
    ]

pub returns : goal.returns
returns g c =
    let o = g.K.Kind.ops in
    let m = c.args.maxval in
    let cs = c.args.codes.now in
    let e : c.loop-code.code-index ≡ length cs = omega arith in
    record {
      end = c.loop-code.invariant.0 ∙ ap (λ j. j * pixel_width o m) e;
      out = c.loop-code.invariant.1 ∙ ap (λ b. over b c.args.out.now) (ap (λ n. flat_map (λ j. code_bytes o m (get_or cs j 0)) (range_with_len 0 n)) e ∙ by_place (code_bytes o m) cs);
    }
