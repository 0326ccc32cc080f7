use Rattle.std.proofs.Common.{◌≡◌, sym, subst, List, ap₂}
use Rattle.std.specs.Prelude.{◌&&◌}
use Rattle.exo_tree.specs.Tree.{Program}
use Rattle.exo_tree.specs.PlainProcedure.{procedure}
use Rattle.config_laws.specs.Differing.{Origin}
use Rattle.text_expressions.specs.Views.{tree_of}
use Rattle.rules_names.specs.Arguments.{knows_fields}
use Rattle.cursor_forward.specs.PlainProposal.{plain_proposal}
use Rattle.alloc_laws.specs.Expanding.{expand_rule}
use Rattle.step_driver.specs.PlainTarget.{target}
use Rattle.schedule_calls.specs.PlainRequest.{plain_asked}
use Rattle.schedule_laws.specs.Versions.Lines as lines
use Rattle.schedule_laws.specs.Operators.Arguments.{control_at}
use Rattle.schedule_laws.specs.Operators.Places.{statement_in}
use Rattle.schedule_laws.specs.Operators.Calls.{controls_call}
use Rattle.schedule_run.specs.Outcomes.{Makes}
use Rattle.schedule_run.specs.Planned.{planned}
use Rattle.schedule_run.specs.PlainVersions.{versions}
use Rattle.schedule_run.proofs.Going.{made_failed}
use Rattle.schedule_run.proofs.Asking.{asked_unknown, asked_lost, asked_there, known_in, unknown_in}
use Rattle.schedule_run.proofs.Asking.{both_known, first_unknown, second_unknown}
use Rattle.schedule_run.proofs.buffers.expand_dim_at.Goals as goal

pub returns : goal.returns
returns c =
    let v = versions c.args.s.now in
    let k = c.args.on.now.number.0 in
    let p = procedure c.args.on.now.proc.now in
    let size = tree_of c.args.size.now in
    let point = tree_of c.args.point.now in
    let same : target c.args.on.now ≡ lines.target v k p =
    ap₂ (λ (u : Program) (os : List Origin). record { unit = u; origins = os; number = k; proc = p })
    c.requires.unit c.requires.origins in
    subst (λ m. Makes plain_proposal m c.expanded.result)
    (sym
    (asked_there v k p
    (λ v. knows_fields v.unit.fields size && knows_fields v.unit.fields point)
    (plain_asked c.args.at.now) statement_in
    (λ v t path. record {
      rule = expand_rule (control_at t path size) (control_at t path point);
      at = path;
    })
    (target c.args.on.now) same
    (known_in v k p (target c.args.on.now) same
    (λ fs. knows_fields fs size && knows_fields fs point)
    (both_known _ _ c.in_ok-control_known.ensures c.in_ok-control_known-2.ensures))
    c.in_ok-path.path c.in_ok-path.ensures))
    c.expanded.ensures

pub returns-in_err-path : goal.returns-in_err-path
returns-in_err-path c =
    let v = versions c.args.s.now in
    let k = c.args.on.now.number.0 in
    let p = procedure c.args.on.now.proc.now in
    let size = tree_of c.args.size.now in
    let point = tree_of c.args.point.now in
    let same : target c.args.on.now ≡ lines.target v k p =
    ap₂ (λ (u : Program) (os : List Origin). record { unit = u; origins = os; number = k; proc = p })
    c.requires.unit c.requires.origins in
    let e = c.in_err-path.field-0.0 in
    made_failed plain_proposal
    (planned v k p (controls_call (plain_asked c.args.at.now) size point expand_rule))
    c.from_residual-in_err-path.result e c.from_residual-in_err-path.ensures.1
    (asked_lost v k p (λ v. knows_fields v.unit.fields size && knows_fields v.unit.fields point)
    (plain_asked c.args.at.now) statement_in
    (λ v t path. record {
      rule = expand_rule (control_at t path size) (control_at t path point);
      at = path;
    })
    (known_in v k p (target c.args.on.now) same
    (λ fs. knows_fields fs size && knows_fields fs point)
    (both_known _ _ c.in_ok-control_known.ensures c.in_ok-control_known-2.ensures))
    e c.in_err-path.ensures)

pub returns-in_err-control_known : goal.returns-in_err-control_known
returns-in_err-control_known c =
    let v = versions c.args.s.now in
    let k = c.args.on.now.number.0 in
    let p = procedure c.args.on.now.proc.now in
    let size = tree_of c.args.size.now in
    let point = tree_of c.args.point.now in
    let same : target c.args.on.now ≡ lines.target v k p =
    ap₂ (λ (u : Program) (os : List Origin). record { unit = u; origins = os; number = k; proc = p })
    c.requires.unit c.requires.origins in
    let e = c.in_err-control_known.field-0.0 in
    made_failed plain_proposal
    (planned v k p (controls_call (plain_asked c.args.at.now) size point expand_rule))
    c.from_residual.result e c.from_residual.ensures.1
    (asked_unknown v k p (λ v. knows_fields v.unit.fields size && knows_fields v.unit.fields point)
    (plain_asked c.args.at.now) statement_in
    (λ v t path. record {
      rule = expand_rule (control_at t path size) (control_at t path point);
      at = path;
    })
    e
    (unknown_in v k p (target c.args.on.now) same
    (λ fs. knows_fields fs size && knows_fields fs point) e
    (first_unknown _ _ e c.in_err-control_known.ensures)))

pub returns-in_err-control_known-2 : goal.returns-in_err-control_known-2
returns-in_err-control_known-2 c =
    let v = versions c.args.s.now in
    let k = c.args.on.now.number.0 in
    let p = procedure c.args.on.now.proc.now in
    let size = tree_of c.args.size.now in
    let point = tree_of c.args.point.now in
    let same : target c.args.on.now ≡ lines.target v k p =
    ap₂ (λ (u : Program) (os : List Origin). record { unit = u; origins = os; number = k; proc = p })
    c.requires.unit c.requires.origins in
    let e = c.in_err-control_known-2.field-0.0 in
    made_failed plain_proposal
    (planned v k p (controls_call (plain_asked c.args.at.now) size point expand_rule))
    c.from_residual-in_err-control_known-2.result e c.from_residual-in_err-control_known-2.ensures.1
    (asked_unknown v k p (λ v. knows_fields v.unit.fields size && knows_fields v.unit.fields point)
    (plain_asked c.args.at.now) statement_in
    (λ v t path. record {
      rule = expand_rule (control_at t path size) (control_at t path point);
      at = path;
    })
    e
    (unknown_in v k p (target c.args.on.now) same
    (λ fs. knows_fields fs size && knows_fields fs point) e
    (second_unknown _ _ c.in_ok-control_known.ensures e c.in_err-control_known-2.ensures)))
