use Rattle.std.proofs.Common.{subst}
use Rattle.exo_tree.specs.Tree.{Control}
use Rattle.cursor_forward.specs.PlainProposal.{plain_proposal}
use Rattle.step_rules.specs.Answer.{proposed}
use Rattle.step_driver.specs.PlainTarget.{target}
use Rattle.schedule_laws.specs.Operators.Operators.{control_rule}
use Rattle.schedule_run.specs.Outcomes.{Makes}
use Rattle.schedule_run.specs.Planned.{as_tried}
use Rattle.schedule_run.proofs.resolving.resolved.Goals as goal

pub returns : goal.returns
returns c =
    subst (λ (e : Control). Makes plain_proposal
    (as_tried (proposed (control_rule c.args.operator e) (target c.args.on.now) c.args.path.now)) c.made_by.result)
    c.in_ok-e.ensures.1 c.made_by.ensures
