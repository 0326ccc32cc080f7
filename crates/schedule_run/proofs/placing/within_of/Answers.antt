use Rattle.std.proofs.Common.{◌<◌, length, arith}
use Rattle.schedule_run.proofs.Gaps.{within_found}
use Rattle.schedule_run.proofs.placing.within_of.Goals as goal

pub returns : goal.returns
returns c =
    let some : 0 < length c.in_ok-last.up.now =
    grind (arith, c.is_empty.ensures, c.if-is_empty.false, c.if-is_empty.ensures) in
    within_found c.args.path.now c.as_slice.result.now c.as_slice.ensures.value
    c.in_ok-last.up.now c.in_ok-last.last.now c.in_ok-last.ensures.cases.0 some _ c.from_steps.ensures
