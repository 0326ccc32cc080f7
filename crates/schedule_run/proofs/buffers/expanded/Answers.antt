use Rattle.std.proofs.Common.{subst}
use Rattle.exo_tree.specs.Tree.{Control}
use Rattle.text_expressions.specs.Views.{tree_of}
use Rattle.cursor_forward.specs.PlainProposal.{plain_proposal}
use Rattle.alloc_laws.specs.Expanding.{expand_rule}
use Rattle.step_rules.specs.Answer.{proposed}
use Rattle.step_driver.specs.PlainTarget.{target}
use Rattle.schedule_laws.specs.Operators.Arguments.{control_at}
use Rattle.schedule_run.specs.Outcomes.{Makes}
use Rattle.schedule_run.specs.Planned.{as_tried}
use Rattle.schedule_run.proofs.buffers.expanded.Goals as goal

pub returns : goal.returns
returns c =
    subst (λ (e : Control). Makes plain_proposal
    (as_tried
    (proposed
    (expand_rule e (control_at (target c.args.on.now) c.args.path.now (tree_of c.args.point.now)))
    (target c.args.on.now) c.args.path.now))
    c.expanded_to.result)
    c.in_ok-size.ensures.1 c.expanded_to.ensures
