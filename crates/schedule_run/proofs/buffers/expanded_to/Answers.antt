use Rattle.std.proofs.Common.{subst}
use Rattle.exo_tree.specs.Tree.{Control}
use Rattle.exo_tree.specs.PlainControl.{control}
use Rattle.cursor_forward.specs.PlainProposal.{plain_proposal}
use Rattle.alloc_laws.specs.Expanding.{expand_rule}
use Rattle.step_rules.specs.Answer.{proposed}
use Rattle.step_driver.specs.PlainTarget.{target}
use Rattle.schedule_run.specs.Outcomes.{Makes}
use Rattle.schedule_run.specs.Planned.{as_tried}
use Rattle.schedule_run.proofs.buffers.expanded_to.Goals as goal

pub returns : goal.returns
returns c =
    subst (λ (e : Control). Makes plain_proposal
    (as_tried (proposed (expand_rule (control c.args.size.now) e) (target c.args.on.now) c.args.path.now))
    c.expanded_by.result)
    c.in_ok-point.ensures.1 c.expanded_by.ensures
