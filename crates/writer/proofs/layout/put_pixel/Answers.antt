use Rattle.std.proofs.Common.{◌≡◌, ◌-◌, ◌*◌, length, get_or, take, drop, sym, ap, ◌∙◌, arith}
use Rattle.std.specs.List.{range_with_len, flat_map}
use Rattle.writer.specs.File.{sample_bytes, sample_width}
use Rattle.writer.proofs.Joins.{length-sample_bytes, times_more, room, over_turn, by_place}
use Rattle.writer.specs.Calls.{over}
use Rattle.writer.proofs.layout.put_pixel.Goals as goal

pub loop-k-preserved : goal.loop-k-preserved
loop-k-preserved g c =
    let m = c.args.maxval in
    let k = c.loop-k.k in
    let xs = g.K.Kind.ops.samples c.args.pixel in
    let r = room k g.K.Kind.ops.depth (sample_width m) (omega (arith, c.depth-k-end.ensures)) in (
      omega (arith, times_more k (sample_width m)),
      over_turn (λ j. sample_bytes m (get_or xs j 0)) (sample_width m) (λ j. length-sample_bytes m (get_or xs j 0)) c.args.out.now c.loop-k.out c.put_sample-end.new.out
          k c.loop-k.end c.loop-k.invariant.0 (omega arith) c.loop-k.invariant.1
          (c.put_sample-end.ensures.out ∙ ap (λ s. over (sample_bytes m s) (take (length c.loop-k.out - c.loop-k.end) (drop c.loop-k.end c.loop-k.out))) c.sample.ensures),
    )

pub returns : goal.returns
returns g c =
    let m = c.args.maxval in
    let xs = g.K.Kind.ops.samples c.args.pixel in
    let e : c.loop-k.k ≡ g.K.Kind.ops.depth = omega (arith, c.depth-k-end.ensures) in
    let d : c.loop-k.k ≡ length xs = e ∙ sym (g.met.K.Kind.deep c.args.pixel) in
    record {
      end = c.loop-k.invariant.0 ∙ ap (λ n. n * sample_width m) e;
      out = c.loop-k.invariant.1 ∙ ap (λ b. over b c.args.out.now) (ap (λ n. flat_map (λ j. sample_bytes m (get_or xs j 0)) (range_with_len 0 n)) d ∙ by_place (sample_bytes m) xs);
    }
