use Rattle.exo_tree.specs.PlainProcedure.{procedure}
use Rattle.schedule_calls.specs.PlainRequest.{plain_change}
use Rattle.schedule_laws.specs.Operators.Operators.{change_call}
use Rattle.schedule_run.specs.PlainVersions.{versions}
use Rattle.schedule_run.proofs.Arms.{of_arm, of_cursor}
use Rattle.schedule_run.proofs.planning.planned.Goals as goal

pub returns-in-At : goal.returns-in-At
returns-in-At c =
    let v = versions c.args.s.now in
    let k = c.args.on.now.number.0 in
    let p = procedure c.args.on.now.proc.now in
    let r = c.changed.result in
    of_arm v k p r _ _ c.in-At.is
    (of_cursor v k p r (λ a. change_call a (plain_change c.in-At.change)) _ _ c.deref.ensures
    c.changed.ensures)

pub returns-in-Whole : goal.returns-in-Whole
returns-in-Whole c =
    of_arm (versions c.args.s.now) c.args.on.now.number.0 (procedure c.args.on.now.proc.now)
    c.on_whole.result _ _ c.in-Whole.is c.on_whole.ensures
