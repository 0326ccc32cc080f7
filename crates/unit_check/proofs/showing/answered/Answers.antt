use Rattle.std.proofs.Common.{map, sym, ◌∙◌, subst}
use Rattle.std.specs.Prelude.{Err}
use Rattle.affine_systems.specs.Outcomes.{plain_obligation}
use Rattle.unit_check.specs.Checked.{first_open}
use Rattle.unit_check.specs.declared.refused.Why.{Why}
use Rattle.unit_check.specs.Outcomes.{Shows}
use Rattle.unit_check.proofs.Opening.{none_open, one_open}
use Rattle.unit_check.proofs.showing.answered.Goals as goal

pub returns-in-AllShown-clause-exact : goal.returns-in-AllShown-clause-exact
returns-in-AllShown-clause-exact c = none_open c.args.obs.now (sym c.in-AllShown.is ∙ c.requires)

pub returns-in-Ok-clause-exact : goal.returns-in-Ok-clause-exact
returns-in-Ok-clause-exact c =
    subst (λ (w : Why). Shows {A = Unit {0}} (Err w) (first_open (map plain_obligation c.args.obs.now)))
    (sym c.in-Ok.ensures)
    (one_open c.args.obs.now c.in-First.index c.in-First.verdict c.index-obs-index.result (sym c.in-First.is ∙ c.requires) c.index-obs-index.is)
