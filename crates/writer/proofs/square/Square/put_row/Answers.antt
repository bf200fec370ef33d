use Rattle.std.proofs.Common.{◌-◌, length, arith}
use Rattle.std.specs.List.{flat_map}
use Rattle.writer.specs.File.{pixel_width, pixel_bytes}
use Rattle.writer.specs.Layout.{repeated, code_bytes}
use Rattle.writer.proofs.Paste.{over_next}
use Rattle.writer.proofs.Joins.{length-joined, length_parts, length-code_bytes, length-pixel_bytes, times_split}
use Rattle.writer.proofs.square.Square.put_row.Goals as goal

pub returns : goal.returns
returns g c =
    let o = g.K.Kind.ops in
    let m = c.args.self.now.maxval in
    let cs = c.args.codes.now in
    let t = times_split (length cs) c.args.self.now.side (pixel_width o m) c.requires.within in
    let l = length-joined (code_bytes o m) (pixel_width o m) (length-code_bytes o g.met.K.Kind.deep m) cs in
    let r = length_parts (λ k. pixel_bytes o m c.args.self.now.pad) (pixel_width o m) 0 (c.args.self.now.side - length cs) (λ k. length-pixel_bytes o g.met.K.Kind.deep m c.args.self.now.pad) in
    record {
      end = omega arith;
      out = over_next c.args.out.now c.put_codes-end.new.out c.put_same.new.out (flat_map (code_bytes o m) cs) (repeated (pixel_bytes o m c.args.self.now.pad) (c.args.self.now.side - length cs))
          c.put_codes-end.result c.put_codes-end.ensures.out (omega arith) (omega arith) c.put_same.ensures.out;
    }
