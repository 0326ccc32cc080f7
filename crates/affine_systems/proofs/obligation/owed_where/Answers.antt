use Rattle.std.proofs.Common.{◌∙◌, ◌++◌, ap, subst, [], ◌∷◌}
use Rattle.affine_forms.specs.Formulas.{cases_of_all}
use Rattle.affine_forms.specs.PlainFormulas.{plain_formula}
use Rattle.affine_systems.specs.Systems.{stated_in}
use Rattle.affine_systems.specs.PlainCases.{plain_cases}
use Rattle.affine_systems.specs.Outcomes.{IsAnswer}
use Rattle.affine_systems.proofs.Answering.{few_cases}
use Rattle.affine_systems.proofs.obligation.owed_where.Goals as goal

pub owed_in-requires : goal.owed_in-requires
owed_in-requires c =
    few_cases (plain_cases c.deref.result.now) (cases_of_all (c.args.ctx.now ++ plain_formula c.args.denied.now ∷ [])) (ap plain_cases c.deref.ensures.value ∙ c.in_ok-cases.ensures)
    (λ e. c.if-failing_count-eq-MANY.false (c.failing_count.ensures ∙ e))

pub returns : goal.returns
returns c =
    subst (λ css. IsAnswer c.owed_in.result (stated_in css) c.args.what.now c.args.place.now)
    (ap plain_cases c.deref.ensures.value ∙ c.in_ok-cases.ensures) c.owed_in.ensures
