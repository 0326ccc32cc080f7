use Rattle.std.proofs.Common.{◌≡◌, true, refl, sym, subst, List, ap₂}
use Rattle.exo_tree.specs.Tree.{Program}
use Rattle.exo_tree.specs.PlainProcedure.{procedure}
use Rattle.config_laws.specs.Differing.{Origin}
use Rattle.cursor_forward.specs.PlainProposal.{plain_proposal}
use Rattle.alloc_laws.specs.Lifting.{lift_rule}
use Rattle.step_driver.specs.PlainTarget.{target}
use Rattle.schedule_calls.specs.PlainRequest.{plain_asked}
use Rattle.schedule_laws.specs.Versions.Lines as lines
use Rattle.schedule_laws.specs.Operators.Places.{within_in}
use Rattle.schedule_laws.specs.Operators.Calls.{within_call}
use Rattle.schedule_run.specs.PlainPlace.{plain_within}
use Rattle.schedule_run.specs.Outcomes.{Makes}
use Rattle.schedule_run.specs.Planned.{planned}
use Rattle.schedule_run.specs.PlainVersions.{versions}
use Rattle.schedule_run.proofs.Going.{made_failed}
use Rattle.schedule_run.proofs.Asking.{asked_lost, asked_there}
use Rattle.schedule_run.proofs.buffers.lift_alloc_at.Goals as goal

pub returns : goal.returns
returns c =
    let v = versions c.args.s.now in
    let k = c.args.on.now.number.0 in
    let p = procedure c.args.on.now.proc.now in
    let same : target c.args.on.now ≡ lines.target v k p =
    ap₂ (λ (u : Program) (os : List Origin). record { unit = u; origins = os; number = k; proc = p })
    c.requires.unit c.requires.origins in
    subst (λ m. Makes plain_proposal m c.proposed.result)
    (sym
    (asked_there v k p (λ v. true) (plain_asked c.args.at.now) within_in
    (λ v t w. record { rule = lift_rule w.branch w.index; at = w.around })
    (target c.args.on.now) same refl (plain_within c.in_ok-within.within) c.in_ok-within.ensures))
    c.proposed.ensures

pub returns-in_err-within : goal.returns-in_err-within
returns-in_err-within c =
    let v = versions c.args.s.now in
    let k = c.args.on.now.number.0 in
    let p = procedure c.args.on.now.proc.now in
    let e = c.in_err-within.field-0.0 in
    made_failed plain_proposal (planned v k p (within_call (plain_asked c.args.at.now) lift_rule))
    c.from_residual.result e c.from_residual.ensures.1
    (asked_lost v k p (λ v. true) (plain_asked c.args.at.now) within_in
    (λ v t w. record { rule = lift_rule w.branch w.index; at = w.around }) refl e
    c.in_err-within.ensures)
