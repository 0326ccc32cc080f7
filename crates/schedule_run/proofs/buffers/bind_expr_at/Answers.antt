use Rattle.std.proofs.Common.{◌≡◌, true, refl, sym, subst, List, ap₂}
use Rattle.exo_tree.specs.Tree.{Program}
use Rattle.exo_tree.specs.PlainProcedure.{procedure}
use Rattle.config_laws.specs.Differing.{Origin}
use Rattle.cursor_forward.specs.Search.PlainPattern.{plain_expr_pattern}
use Rattle.cursor_forward.specs.PlainProposal.{plain_proposal}
use Rattle.alloc_laws.specs.Bind.Binding.{bind_rule}
use Rattle.step_driver.specs.PlainTarget.{target}
use Rattle.schedule_calls.specs.PlainRequest.{plain_asked}
use Rattle.schedule_laws.specs.Versions.Lines as lines
use Rattle.schedule_laws.specs.Operators.Arguments.{part_at}
use Rattle.schedule_laws.specs.Operators.Places.{statement_in}
use Rattle.schedule_laws.specs.Operators.Calls.{part_call}
use Rattle.schedule_run.specs.Outcomes.{Makes}
use Rattle.schedule_run.specs.Planned.{planned}
use Rattle.schedule_run.specs.PlainVersions.{versions}
use Rattle.schedule_run.proofs.Going.{made_failed}
use Rattle.schedule_run.proofs.Asking.{asked_lost, asked_there}
use Rattle.schedule_run.proofs.buffers.bind_expr_at.Goals as goal

pub returns : goal.returns
returns c =
    let v = versions c.args.s.now in
    let k = c.args.on.now.number.0 in
    let p = procedure c.args.on.now.proc.now in
    let x = plain_expr_pattern c.args.part.now in
    let name = c.args.name.now in
    let same : target c.args.on.now ≡ lines.target v k p =
    ap₂ (λ (u : Program) (os : List Origin). record { unit = u; origins = os; number = k; proc = p })
    c.requires.unit c.requires.origins in
    subst (λ m. Makes plain_proposal m c.bound.result)
    (sym
    (asked_there v k p (λ v. true) (plain_asked c.args.at.now) statement_in
    (λ v t path. record { rule = bind_rule (part_at t path x.form) x.nth name; at = path })
    (target c.args.on.now) same refl c.in_ok-path.path c.in_ok-path.ensures))
    c.bound.ensures

pub returns-in_err-path : goal.returns-in_err-path
returns-in_err-path c =
    let v = versions c.args.s.now in
    let k = c.args.on.now.number.0 in
    let p = procedure c.args.on.now.proc.now in
    let x = plain_expr_pattern c.args.part.now in
    let name = c.args.name.now in
    let e = c.in_err-path.field-0.0 in
    made_failed plain_proposal
    (planned v k p (part_call (plain_asked c.args.at.now) x (λ form k. bind_rule form k name)))
    c.from_residual.result e c.from_residual.ensures.1
    (asked_lost v k p (λ v. true) (plain_asked c.args.at.now) statement_in
    (λ v t path. record { rule = bind_rule (part_at t path x.form) x.nth name; at = path })
    refl e c.in_err-path.ensures)
