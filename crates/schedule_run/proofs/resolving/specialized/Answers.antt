use Rattle.std.proofs.Common.{◌∙◌, ap, subst}
use Rattle.exo_tree.specs.Tree.{Condition}
use Rattle.exo_tree.specs.PlainControl.{condition}
use Rattle.cursor_forward.specs.PlainProposal.{plain_proposal}
use Rattle.loop_laws.specs.Specialize.{specialize_rule}
use Rattle.step_rules.specs.Answer.{proposed}
use Rattle.step_driver.specs.PlainTarget.{target}
use Rattle.schedule_run.specs.Outcomes.{Makes}
use Rattle.schedule_run.specs.Planned.{as_tried}
use Rattle.schedule_run.proofs.resolving.specialized.Goals as goal

pub returns : goal.returns
returns c =
    subst (λ (t : Condition). Makes plain_proposal
    (as_tried (proposed (specialize_rule c.args.piece.now.count t) (target c.args.on.now) c.args.piece.now.path))
    c.specialized_by.result)
    (ap condition c.deref.ensures ∙ c.in_ok-c.ensures.1) c.specialized_by.ensures
