use Rattle.std.proofs.Common.{◌++◌, subst, [], ◌∷◌}
use Rattle.affine_forms.specs.PlainFormulas.{plain_formula}
use Rattle.affine_systems.specs.Systems.{cases_stated}
use Rattle.affine_systems.specs.Outcomes.{IsAnswer}
use Rattle.affine_systems.proofs.Answering.{failures_are_points}
use Rattle.affine_systems.proofs.obligation.systems.Goals as goal

pub returns-clause-exact : goal.returns-clause-exact
returns-clause-exact c =
    subst (λ g. IsAnswer c.owed_where.result (cases_stated (c.args.ctx.now ++ g ∷ [])) c.args.what.now c.args.place.now) c.in_ok-denied.ensures c.owed_where.ensures

pub returns-clause-points : goal.returns-clause-points
returns-clause-points c = failures_are_points c.owed_where.result c.args.ctx.now (plain_formula c.args.claim.now) c.args.what.now c.args.place.now (returns-clause-exact c)
