use Rattle.std.proofs.Common.{◌≡◌, sym, subst, List, ap₂}
use Rattle.exo_tree.specs.Tree.{Program}
use Rattle.exo_tree.specs.PlainProcedure.{procedure}
use Rattle.config_laws.specs.Differing.{Origin}
use Rattle.text_expressions.specs.Views.{tree_of}
use Rattle.rules_names.specs.Arguments.{knows_fields}
use Rattle.cursor_forward.specs.PlainProposal.{plain_proposal}
use Rattle.step_driver.specs.PlainTarget.{target}
use Rattle.schedule_calls.specs.PlainRequest.{plain_asked}
use Rattle.schedule_laws.specs.Versions.Lines as lines
use Rattle.schedule_laws.specs.Operators.Arguments.{control_at}
use Rattle.schedule_laws.specs.Operators.Places.{statement_in}
use Rattle.schedule_laws.specs.Operators.Calls.{control_call}
use Rattle.schedule_laws.specs.Operators.Operators.{control_rule}
use Rattle.schedule_run.specs.Outcomes.{Makes}
use Rattle.schedule_run.specs.Planned.{planned}
use Rattle.schedule_run.specs.PlainVersions.{versions}
use Rattle.schedule_run.proofs.Going.{made_failed}
use Rattle.schedule_run.proofs.Asking.{asked_lost, asked_there, known_in}
use Rattle.schedule_run.proofs.resolving.by_control.Goals as goal

pub returns : goal.returns
returns c =
    let v = versions c.args.s.now in
    let k = c.args.on.now.number.0 in
    let p = procedure c.args.on.now.proc.now in
    let same : target c.args.on.now ≡ lines.target v k p =
    ap₂ (λ (u : Program) (os : List Origin). record { unit = u; origins = os; number = k; proc = p })
    c.requires.unit c.requires.origins in
    subst (λ m. Makes plain_proposal m c.resolved.result)
    (sym
    (asked_there v k p (λ v. knows_fields v.unit.fields (tree_of c.args.e.now))
    (plain_asked c.args.at.now) statement_in
    (λ v t path. record {
      rule = control_rule c.args.operator (control_at t path (tree_of c.args.e.now));
      at = path;
    })
    (target c.args.on.now) same
    (known_in v k p (target c.args.on.now) same (λ fs. knows_fields fs (tree_of c.args.e.now))
    c.in_ok-control_known.ensures)
    c.in_ok-path.path c.in_ok-path.ensures))
    c.resolved.ensures

pub returns-in_err-path : goal.returns-in_err-path
returns-in_err-path c =
    let v = versions c.args.s.now in
    let k = c.args.on.now.number.0 in
    let p = procedure c.args.on.now.proc.now in
    let same : target c.args.on.now ≡ lines.target v k p =
    ap₂ (λ (u : Program) (os : List Origin). record { unit = u; origins = os; number = k; proc = p })
    c.requires.unit c.requires.origins in
    let e = c.in_err-path.field-0.0 in
    made_failed plain_proposal
    (planned v k p
    (control_call (plain_asked c.args.at.now) (tree_of c.args.e.now) (control_rule c.args.operator)))
    c.from_residual-in_err-path.result e c.from_residual-in_err-path.ensures.1
    (asked_lost v k p (λ v. knows_fields v.unit.fields (tree_of c.args.e.now))
    (plain_asked c.args.at.now) statement_in
    (λ v t path. record {
      rule = control_rule c.args.operator (control_at t path (tree_of c.args.e.now));
      at = path;
    })
    (known_in v k p (target c.args.on.now) same (λ fs. knows_fields fs (tree_of c.args.e.now))
    c.in_ok-control_known.ensures)
    e c.in_err-path.ensures)
