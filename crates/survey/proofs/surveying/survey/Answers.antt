use Rattle.std.proofs.Common.{◌≡◌, ◌-◌, ◌*◌, ◌/◌, ◌%◌, ◌≤◌, min, length, sym, refl, ap, ◌∙◌, subst, arith, rules}
use Rattle.std.proofs.lemmas.List.{length-take-le}
use Rattle.survey.specs.Surveys.{seen, reading, surveyed, Account}
use Rattle.survey.proofs.Advance.{Part, few, seen-surveyed, pixels_more}
use Rattle.survey.proofs.Accounts.{account}
use Rattle.survey.proofs.Runs.{Spent, spent_none, spent_pixels, spent_half}
use Rattle.survey.proofs.surveying.survey.Goals as goal

pub loop-place-init : goal.loop-place-init
loop-place-init g c =
    let z : g.P.Picture.count c.args.picture.now - g.P.Picture.count c.args.picture.now ≡ 0 = omega arith in
    record {
      value = c.new-survey.ensures;
      below = omega arith;
      least = omega arith;
      most = omega arith;
      room = search rules;
      kept = refl;
      spent = subst (λ x. Spent 4096 x 0) (sym z) spent_none;
    }

pub note_pixels-requires-clause-room : goal.note_pixels-requires-clause-room
note_pixels-requires-clause-room g c =
    let o = g.P.Pixel.Kind.ops in
    let s = c.size-size.result in
    let r = c.part_at-part.result in
    let codes = c.look.new.buffer in
    let l : r.width ≤ length codes = omega (arith, c.look.auto.buffer) in
    let m = few s.width s.height c.min-count.result s.across s.down (omega (arith, c.min-count.ensures)) in
    let e = ap seen c.loop-place.invariant.value ∙ seen-surveyed o (g.P.Picture.model c.args.picture.now).shown c.loop-place.place in
    omega (arith, e, m, length-take-le r.width codes l, c.part_at-part.ensures.count)

pub loop-place-preserved-in-Ok : goal.loop-place-preserved-in-Ok
loop-place-preserved-in-Ok g c =
    let o = g.P.Pixel.Kind.ops in
    let i = (g.P.Picture.model c.args.picture.now).shown in
    let j = (g.P.Picture.model c.loop-place.picture).shown in
    let place = c.loop-place.place in
    let r = c.part_at-part.result in
    let codes = c.look.new.buffer in
    let l : r.width ≤ length codes = omega (arith, c.look.auto.buffer) in
    let w = c.size-size.ensures.width in
    let h : Part i j place r = record {
      same = ap (λ m. m.shown) c.loop-place.invariant.kept;
      left = c.part_at-part.ensures.left ∙ ap (λ x. place % x) w;
      top = c.part_at-part.ensures.top ∙ ap (λ x. place / x) w;
      fits = omega (arith, c.part_at-part.ensures.across);
    } in
    record {
      value = pixels_more o i j place r c.loop-place.survey c.note_pixels.new.self codes h l c.loop-place.invariant.value (c.look.ensures.codes c.in-Ok.is) c.note_pixels.ensures;
      below = c.part_at-part.ensures.count;
      least = omega (arith, c.min-run.ensures);
      most = omega (arith, c.min-run.ensures);
      room = omega (arith, c.look.auto.buffer);
      kept = c.look.ensures.kept ∙ c.loop-place.invariant.kept;
      spent = spent_pixels c.loop-place.run c.min-run.result r.width _ _ place c.loop-place.invariant.spent (omega (arith, c.min-run.ensures)) (omega (arith, c.look.ensures.quick)) r.wide;
    }

pub note_hole-requires : goal.note_hole-requires
note_hole-requires g c =
    let i = (g.P.Picture.model c.args.picture.now).shown in
    let s = c.size-size.result in
    let m = few s.width s.height c.min-count.result s.across s.down (omega (arith, c.min-count.ensures)) in
    let e = ap seen c.loop-place.invariant.value ∙ seen-surveyed g.P.Pixel.Kind.ops i c.loop-place.place in
    omega (arith, e, m, c.loop-place-test.true)

pub loop-place-preserved : goal.loop-place-preserved
loop-place-preserved g c =
    let n = c.part_at-part.result.width in
    let two : 2 ≤ n = omega arith in
    record {
      value = c.loop-place.invariant.value;
      below = c.loop-place.invariant.below;
      least = omega arith;
      most = omega (arith, c.part_at-part.ensures.run);
      room = omega (arith, c.look.auto.buffer);
      kept = c.look.ensures.kept ∙ c.loop-place.invariant.kept;
      spent = spent_half c.loop-place.run n _ _ c.loop-place.place c.loop-place.invariant.spent c.part_at-part.ensures.run two (omega (arith, c.look.ensures.quick));
    }

pub returns-clause-law : goal.returns-clause-law
returns-clause-law g c =
    let o = g.P.Pixel.Kind.ops in
    let i = (g.P.Picture.model c.args.picture.now).shown in
    let s = c.size-size.result in
    let n = min c.args.places (i.width * i.height) in
    let m : c.min-count.result ≡ n =
    c.min-count.ensures ∙ ap (λ x. min c.args.places (x * s.height)) c.size-size.ensures.width ∙ ap (λ x. min c.args.places (i.width * x)) c.size-size.ensures.height in
    let e : c.loop-place.place ≡ n = omega arith in
    let v : c.loop-place.survey ≡ surveyed o i n = c.loop-place.invariant.value ∙ ap (surveyed o i) e in
    subst (Account o (reading i) n) (sym v) (account o (λ p. omega (arith, g.met.P.Pixel.Kind.deep p, g.met.P.Pixel.Kind.few.0)) (reading i) n)
