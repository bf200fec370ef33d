use Rattle.std.proofs.Common.{◌<◌, arith}
use Rattle.writer.specs.File.{pixel_width, pixel_bytes}
use Rattle.writer.proofs.Joins.{length-pixel_bytes, times_more, room, over_turn}
use Rattle.writer.proofs.layout.put_same.Goals as goal

pub loop-preserved : goal.loop-preserved
loop-preserved g c =
    let o = g.K.Kind.ops in
    let m = c.args.maxval in
    let k = c.loop.counter in
    let n = pixel_width o m in
    let h : k < c.args.count = omega arith in
    let r = room k c.args.count n h in (
      omega (arith, times_more k n),
      over_turn (λ j. pixel_bytes o m c.args.pixel) n (λ j. length-pixel_bytes o g.met.K.Kind.deep m c.args.pixel) c.args.out.now c.loop.out c.put_pixel-end.new.out
          k c.loop.end c.loop.invariant.0 (omega arith) c.loop.invariant.1 c.put_pixel-end.ensures.out,
    )
