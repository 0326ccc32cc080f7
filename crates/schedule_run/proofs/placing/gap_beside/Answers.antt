use Rattle.std.proofs.Common.{◌<◌, ◌∙◌, length, ap, sym, arith}
use Rattle.std.specs.Prelude.{option_map}
use Rattle.schedule_run.proofs.Gaps.{gap_found, gap_passed}
use Rattle.schedule_run.proofs.placing.gap_beside.Goals as goal

pub returns-in-Some : goal.returns-in-Some
returns-in-Some c =
    let some : 0 < length c.in_ok-last.up.now =
    grind (arith, c.is_empty.ensures, c.if-is_empty.false, c.if-is_empty.ensures) in
    gap_found c.args.path.now c.as_slice.result.now _ c.as_slice.ensures.value c.in_ok-last.up.now
    c.in_ok-last.last.now c.in_ok-last.ensures.cases.0 some _ c.from_steps.ensures _
    (sym c.before_gap.ensures ∙ ap (option_map (λ n. n)) c.in-Some.is)

pub returns-in-None : goal.returns-in-None
returns-in-None c =
    let some : 0 < length c.in_ok-last.up.now =
    grind (arith, c.is_empty.ensures, c.if-is_empty.false, c.if-is_empty.ensures) in
    sym
    (gap_passed c.args.path.now c.as_slice.result.now _ c.as_slice.ensures.value
    c.in_ok-last.up.now c.in_ok-last.last.now c.in_ok-last.ensures.cases.0 some
    (sym c.before_gap.ensures ∙ ap (option_map (λ n. n)) c.in-None.is))
