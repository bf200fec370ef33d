use Rattle.std.proofs.Common.{◌≡◌, ℕ, ◌+◌, ◌-◌, ◌*◌, ◌≤◌, length, get_or, take, drop, sym, ap, ◌∙◌, subst, arith, rules}
use Rattle.std.proofs.lemmas.List.{get_or-take, get_or-drop}
use Rattle.writer.specs.File.{pixel_width}
use Rattle.writer.specs.Layout.{row_bytes, Known}
use Rattle.writer.proofs.Joins.{times_more, room, over_turn, length-row_bytes, short}
use Rattle.writer.specs.Calls.{over}
use Rattle.writer.proofs.Paste.{length-behind}
use Rattle.writer.proofs.square.Square.put_rows.Goals as goal

pub overflow_add-end : goal.overflow_add-end
overflow_add-end g c =
    let n = c.args.self.now.side * pixel_width g.K.Kind.ops c.args.self.now.maxval in
    let h : c.loop-j.end + c.put_row-end.result ≤ length c.args.out.now = omega (arith, room c.loop-j.j c.args.high n c.loop-j-test.true) in
    search rules

pub put_row-end-requires-clause-room : goal.put_row-end-requires-clause-room
put_row-end-requires-clause-room g c =
    omega (arith, room c.loop-j.j c.args.high (c.args.self.now.side * pixel_width g.K.Kind.ops c.args.self.now.maxval) c.loop-j-test.true, length-behind c.loop-j.out c.loop-j.end)

pub put_row-end-requires-clause-known : goal.put_row-end-requires-clause-known
put_row-end-requires-clause-known g c = λ k h.
    let o = g.K.Kind.ops in
    let j = c.loop-j.j in
    let wide = c.args.wide in
    let cs = c.args.codes.now in
    let n = j * wide + wide - j * wide in
    let m = short n (j * wide) cs in
    let r = room j c.args.high wide c.loop-j-test.true in
    let e : get_or (take n (drop (j * wide) cs)) k 0 ≡ get_or cs (j * wide + k) 0 = get_or-take n (drop (j * wide) cs) k 0 (omega arith) ∙ get_or-drop (j * wide) cs k 0 in
    subst (λ (x : ℕ). Known o c.args.self.now.maxval (o.decode x)) (sym e) (c.requires.known (j * wide + k) (omega arith))

pub loop-j-preserved : goal.loop-j-preserved
loop-j-preserved g c =
    let o = g.K.Kind.ops in
    let m = c.args.self.now.maxval in
    let j = c.loop-j.j in
    let wide = c.args.wide in
    let side = c.args.self.now.side in
    let cs = c.args.codes.now in
    let n = side * pixel_width o m in
    let nw : j * wide + wide - j * wide ≡ wide = omega arith in (
      omega (arith, times_more j n),
      over_turn (λ i. row_bytes o m c.args.self.now.pad side (take wide (drop (i * wide) cs))) n
          (λ i. length-row_bytes o g.met.K.Kind.deep m c.args.self.now.pad side (take wide (drop (i * wide) cs)) (omega (arith, short wide (i * wide) cs, c.requires.within)))
          c.args.out.now c.loop-j.out c.put_row-end.new.out j c.loop-j.end c.loop-j.invariant.0 (omega (arith, room j c.args.high n c.loop-j-test.true)) c.loop-j.invariant.1
          (c.put_row-end.ensures.out
          ∙ ap (λ (k : ℕ). over (row_bytes o m c.args.self.now.pad side (take k (drop (j * wide) cs))) (take (length c.loop-j.out - c.loop-j.end) (drop c.loop-j.end c.loop-j.out))) nw),
    )
