use Rattle.std.proofs.Common.{sym, subst}
use Rattle.exo_tree.specs.PlainControl.{control}
use Rattle.cursor_forward.specs.PlainProposal.{plain_proposal}
use Rattle.step_rules.specs.Answer.{proposed}
use Rattle.step_driver.specs.PlainTarget.{target}
use Rattle.schedule_laws.specs.Operators.Operators.{control_rule}
use Rattle.schedule_run.specs.Outcomes.{Makes}
use Rattle.schedule_run.specs.Planned.{as_tried}
use Rattle.schedule_calls.specs.declared.operator.ControlOperator.{ControlOperator}
use Rattle.schedule_run.proofs.resolving.made_by.Goals as goal

pub returns-in-CutLoop : goal.returns-in-CutLoop
returns-in-CutLoop c =
    subst (λ (o : ControlOperator). Makes plain_proposal
    (as_tried (proposed (control_rule o (control c.args.e.now)) (target c.args.on.now) c.args.path.now))
    c.proposed.result)
    (sym c.in-CutLoop.is) c.proposed.ensures

pub returns-in-ShiftLoop : goal.returns-in-ShiftLoop
returns-in-ShiftLoop c =
    subst (λ (o : ControlOperator). Makes plain_proposal
    (as_tried (proposed (control_rule o (control c.args.e.now)) (target c.args.on.now) c.args.path.now))
    c.proposed-in-ShiftLoop.result)
    (sym c.in-ShiftLoop.is) c.proposed-in-ShiftLoop.ensures
