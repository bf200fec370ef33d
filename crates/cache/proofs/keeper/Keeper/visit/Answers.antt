use Rattle.std.proofs.Common.{◌+◌, Err, refl, sym, ap, ◌∙◌}
use Rattle.std.proofs.lemmas.Result.{err_from_is_err_and}
use Rattle.cache.proofs.Fetching.{none_of, kept_hit, front_hit, went_hit, Asked, kept_err, went_err, kept_ok, went_ok, front_ok}
use Rattle.cache.proofs.keeper.Keeper.visit.Given.{Over}
use Rattle.cache.proofs.keeper.Keeper.visit.Goals as goal
use Rattle.cache.proofs.keeper.Keeper.visit.Goals.{After-prepare}

asked : (g : Over) (c : After-prepare g) → Asked c.args.self.now c.args.tile c.args.cell c.base-start.result (c.base-start.result + c.area.result) c.prepare.new.self c.prepare.result c.prepare.new.buffer
asked g c = record {
  absent = sym c.find.ensures ∙ none_of _ c.in_default.not-Some;
  covers = c.requires;
  begins = c.base-start.ensures;
  ends = ap (λ n. c.base-start.result + n) c.area.ensures;
  prep = c.prepare.ensures;
  long = c.prepare.auto.buffer;
}

pub invariant_of-self : goal.invariant_of-self
invariant_of-self g c = kept_hit c.args.self.now c.args.tile c.in-Some.i (sym c.find.ensures ∙ c.in-Some.is) c.hit.new.self c.hit.ensures

pub returns-in-Some : goal.returns-in-Some
returns-in-Some g c =
    let was = c.args.self.now in
    let is = sym c.find.ensures ∙ c.in-Some.is in
    record {
      went = went_hit was c.args.tile c.in-Some.i is _ refl refl c.hit.ensures refl;
      front = front_hit was c.args.tile c.in-Some.i is c.hit.new.self c.hit.ensures;
    }

-- the check has no other name for this goal yet
pub invariant_of-self-in-Break-1 : goal.invariant_of-self-in-Break-1
invariant_of-self-in-Break-1 g c = kept_err (asked g (goal.at.invariant_of-self-in-Break-1 g c).After-prepare)

pub returns-in_err-prepare-clause-went : goal.returns-in_err-prepare-clause-went
returns-in_err-prepare-clause-went g c =
    let p = err_from_is_err_and c.from_residual.result c.from_residual.ensures.1 in
    went_err (asked g (goal.at.returns-in_err-prepare-clause-went g c).After-prepare) p.0 (c.in_err-prepare.was ∙ ap Err (sym p.2)) c.from_residual.result p.1 _ refl refl refl refl

pub invariant_of-self-2 : goal.invariant_of-self-2
invariant_of-self-2 g c = kept_ok (asked g (goal.at.invariant_of-self-2 g c).After-prepare) c.in_ok-prepare.was c.admit.new.self c.admit.ensures

pub returns : goal.returns
returns g c =
    let a = asked g (goal.at.returns g c).After-prepare in
    record {
      went = went_ok a c.in_ok-prepare.was _ refl refl c.admit.ensures refl;
      front = front_ok a c.in_ok-prepare.was c.admit.new.self c.admit.ensures;
    }
