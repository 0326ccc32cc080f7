use Rattle.std.proofs.Common.{◌≡◌, ◌∙◌, ℕ, List, Option, Some, None, sym, ap, ap₂, subst}
use Rattle.std.specs.Prelude.{option_map}
use Rattle.std.specs.Option.{is_some}
use Rattle.exo_tree.specs.Tree.{Program}
use Rattle.exo_tree.specs.PlainProcedure.{procedure}
use Rattle.exo_tree.specs.declared.number.ProcId.{ProcId}
use Rattle.config_laws.specs.Differing.{Origin}
use Rattle.cursor_forward.specs.PlainProposal.{plain_proposal}
use Rattle.call_laws.specs.Replace.Rule.{replace_rule}
use Rattle.step_rules.specs.Answer.{proposed}
use Rattle.step_driver.specs.PlainTarget.{target, plain_piece}
use Rattle.schedule_calls.specs.PlainRequest.{plain_asked}
use Rattle.schedule_laws.specs.Versions.Versions.{version_of}
use Rattle.schedule_laws.specs.Versions.Lines as lines
use Rattle.schedule_laws.specs.Operators.Arguments.{version_named, number_or}
use Rattle.schedule_laws.specs.Operators.Places.{block_in}
use Rattle.schedule_laws.specs.Operators.Calls.{counted_call}
use Rattle.schedule_run.specs.Outcomes.{Makes}
use Rattle.schedule_run.specs.Planned.{as_tried, if_known, planned}
use Rattle.schedule_run.specs.PlainVersions.{versions}
use Rattle.schedule_run.specs.declared.why.Why.TheVariants as why
use Rattle.schedule_run.proofs.Going.{made_failed}
use Rattle.schedule_run.proofs.Asking.{asked_unknown, asked_lost, asked_there}
use Rattle.schedule_run.proofs.fields.replace_at.Goals as goal

pub returns-in_default : goal.returns-in_default
returns-in_default c =
    let v = versions c.args.s.now in
    let name = c.args.name.now in
    let lost : version_named name v ≡ None =
    ap (version_of v) (sym c.as_slice.ensures) ∙ sym c.version_of.ensures
    ∙ ap (option_map (λ (k : ProcId). k.0)) c.in_default.is in
    asked_unknown v c.args.on.now.number.0 (procedure c.args.on.now.proc.now)
    (λ v. is_some (version_named name v)) (plain_asked c.args.at.now) block_in
    (λ v t piece. record {
      rule = replace_rule (number_or (version_named name v)) piece.count;
      at = piece.path;
    })
    why.UnknownName (ap (λ (o : Option ℕ). if_known (is_some o)) lost)

pub returns : goal.returns
returns c =
    let v = versions c.args.s.now in
    let k = c.args.on.now.number.0 in
    let p = procedure c.args.on.now.proc.now in
    let t = target c.args.on.now in
    let name = c.args.name.now in
    let x = plain_piece c.in_ok-piece.piece in
    let there : version_named name v ≡ Some c.in-Some.callee.0 =
    ap (version_of v) (sym c.as_slice.ensures) ∙ sym c.in-Some.ensures in
    let same : t ≡ lines.target v k p =
    ap₂ (λ (u : Program) (os : List Origin). record { unit = u; origins = os; number = k; proc = p })
    c.requires.unit c.requires.origins in
    subst (λ m. Makes plain_proposal m c.proposed.result)
    (sym
    (asked_there v k p (λ v. is_some (version_named name v)) (plain_asked c.args.at.now) block_in
    (λ v t piece. record {
      rule = replace_rule (number_or (version_named name v)) piece.count;
      at = piece.path;
    })
    t same (ap (λ (o : Option ℕ). if_known (is_some o)) there) x c.in_ok-piece.ensures
    ∙ ap (λ (o : Option ℕ). as_tried (proposed (replace_rule (number_or o) x.count) t x.path)) there))
    c.proposed.ensures

pub returns-in_err-piece : goal.returns-in_err-piece
returns-in_err-piece c =
    let v = versions c.args.s.now in
    let k = c.args.on.now.number.0 in
    let p = procedure c.args.on.now.proc.now in
    let name = c.args.name.now in
    let there : version_named name v ≡ Some c.in-Some.callee.0 =
    ap (version_of v) (sym c.as_slice.ensures) ∙ sym c.in-Some.ensures in
    let e = c.in_err-piece.field-0.0 in
    made_failed plain_proposal
    (planned v k p (counted_call (version_named name) (plain_asked c.args.at.now) replace_rule))
    c.from_residual.result e c.from_residual.ensures.1
    (asked_lost v k p (λ v. is_some (version_named name v)) (plain_asked c.args.at.now) block_in
    (λ v t piece. record {
      rule = replace_rule (number_or (version_named name v)) piece.count;
      at = piece.path;
    })
    (ap (λ (o : Option ℕ). if_known (is_some o)) there) e c.in_err-piece.ensures)
