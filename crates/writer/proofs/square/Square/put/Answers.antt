use Rattle.std.proofs.Common.{◌≡◌, ℕ, ◌+◌, ◌-◌, ◌*◌, ◌≤◌, length, arith, rules}
use Rattle.writer.specs.File.{pixel_width, pixel_bytes}
use Rattle.writer.specs.Layout.{repeated, rows_bytes}
use Rattle.writer.proofs.Paste.{over_next, length-behind}
use Rattle.writer.proofs.Joins.{length_parts, length-pixel_bytes, length-rows_bytes, square_split}
use Rattle.writer.proofs.square.Square.put.Goals as goal

pub put_same-requires-clause-room : goal.put_same-requires-clause-room
put_same-requires-clause-room g c =
    omega (arith, square_split c.args.high c.args.self.now.side (pixel_width g.K.Kind.ops c.args.self.now.maxval) c.requires.down, length-behind c.put_rows-end.new.out c.put_rows-end.result)

-- the rows fit
rows_in : (h s n r l : ℕ) → h ≤ s → r ≡ h * (s * n) → s * s * n ≤ l → r ≤ l
rows_in h s n r l a b c = omega (arith, square_split h s n a)

pub slice_bounds-put_same-count : goal.slice_bounds-put_same-count
slice_bounds-put_same-count g c =
    omega (arith, rows_in c.args.high c.args.self.now.side (pixel_width g.K.Kind.ops c.args.self.now.maxval) c.put_rows-end.result (length c.args.out.now) c.requires.down c.put_rows-end.ensures.end c.requires.room, c.put_rows-end.auto.out)

pub slice_bounds-put_same-start : goal.slice_bounds-put_same-start
slice_bounds-put_same-start g c =
    let h : c.put_rows-end.result ≤ length c.put_rows-end.new.out =
    omega (arith, rows_in c.args.high c.args.self.now.side (pixel_width g.K.Kind.ops c.args.self.now.maxval) c.put_rows-end.result (length c.args.out.now) c.requires.down c.put_rows-end.ensures.end c.requires.room, c.put_rows-end.auto.out) in
    search rules

pub overflow_add-result : goal.overflow_add-result
overflow_add-result g c =
    let h : c.put_rows-end.result + c.put_same.result ≤ length c.args.out.now =
    omega (arith, square_split c.args.high c.args.self.now.side (pixel_width g.K.Kind.ops c.args.self.now.maxval) c.requires.down) in
    search rules

pub returns : goal.returns
returns g c =
    let o = g.K.Kind.ops in
    let m = c.args.self.now.maxval in
    let side = c.args.self.now.side in
    let cs = c.args.codes.now in
    let below = (side - c.args.high) * side in
    let t = square_split c.args.high side (pixel_width o m) c.requires.down in
    let l = length-rows_bytes o g.met.K.Kind.deep m c.args.self.now.pad side c.args.wide cs c.args.high c.requires.across in
    let r = length_parts (λ k. pixel_bytes o m c.args.self.now.pad) (pixel_width o m) 0 below (λ k. length-pixel_bytes o g.met.K.Kind.deep m c.args.self.now.pad) in
    record {
      end = omega arith;
      out = over_next c.args.out.now c.put_rows-end.new.out c.put_same.new.out (rows_bytes o m c.args.self.now.pad side c.args.wide cs c.args.high) (repeated (pixel_bytes o m c.args.self.now.pad) below)
          c.put_rows-end.result c.put_rows-end.ensures.out (omega arith) (omega arith) c.put_same.ensures.out;
    }
