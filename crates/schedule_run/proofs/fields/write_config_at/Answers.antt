use Rattle.std.proofs.Common.{◌≡◌, ◌∙◌, ℕ, Option, Some, None, sym, ap, subst, List, ap₂}
use Rattle.std.specs.Prelude.{◌&&◌, option_map}
use Rattle.std.specs.Option.{is_some}
use Rattle.exo_tree.specs.Tree.{Kind, Program}
use Rattle.exo_tree.specs.PlainBinder.{control_kind}
use Rattle.exo_tree.specs.PlainProcedure.{procedure}
use Rattle.config_laws.specs.Differing.{Origin}
use Rattle.text_expressions.specs.Views.{tree_of}
use Rattle.rules_names.specs.Arguments.{knows_fields}
use Rattle.rules_names.specs.Names.{field_in}
use Rattle.rules_names.specs.Tables.{found_field}
use Rattle.cursor_forward.specs.PlainProposal.{plain_proposal}
use Rattle.call_laws.specs.Fields.FieldRules.{write_rule}
use Rattle.step_rules.specs.Answer.{proposed}
use Rattle.step_rules.specs.Lawful.{config_side}
use Rattle.step_driver.specs.PlainTarget.{target}
use Rattle.schedule_calls.specs.PlainRequest.{plain_asked}
use Rattle.schedule_laws.specs.Versions.Lines as lines
use Rattle.schedule_laws.specs.Operators.Arguments.{field_named, kind_or, number_or, value_at}
use Rattle.schedule_laws.specs.Operators.Arguments.{value_has_form}
use Rattle.schedule_laws.specs.Operators.Places.{beside_in}
use Rattle.schedule_laws.specs.Operators.Calls.{field_call}
use Rattle.schedule_run.specs.Outcomes.{Makes}
use Rattle.schedule_run.specs.PlainPlace.{plain_beside}
use Rattle.schedule_run.specs.Planned.{as_tried, if_known, planned}
use Rattle.schedule_run.specs.PlainVersions.{versions}
use Rattle.schedule_run.specs.declared.why.Why.TheVariants as why
use Rattle.schedule_run.proofs.Going.{made_failed}
use Rattle.schedule_run.proofs.Asking.{asked_unknown, asked_lost, asked_there, known_in, unknown_in}
use Rattle.schedule_run.proofs.Asking.{both_known, second_unknown}
use Rattle.schedule_run.proofs.fields.write_config_at.Goals as goal

pub returns-in_default : goal.returns-in_default
returns-in_default c =
    let v = versions c.args.s.now in
    let config = c.args.config.now in
    let field = c.args.field.now in
    let e = tree_of c.args.e.now in
    let lost : field_in v.unit.fields config field ≡ None =
    ap (λ (u : Program). field_in u.fields config field) (sym c.requires.unit)
    ∙ sym c.field_in.ensures ∙ ap (option_map found_field) c.in_default.is in
    asked_unknown v c.args.on.now.number.0 (procedure c.args.on.now.proc.now)
    (λ v. is_some (field_in v.unit.fields config field) && knows_fields v.unit.fields e)
    (plain_asked c.args.at.now) beside_in
    (λ v t b. record {
      rule =
          write_rule (config_side b.side) (number_or (field_named config field v))
          (value_at t b.path b.side (kind_or (field_in v.unit.fields config field)) e);
      at = b.path;
    })
    why.UnknownName
    (ap (λ (o : Option (ℕ × Kind)). if_known (is_some o && knows_fields v.unit.fields e)) lost)

pub value_known-requires-clause-form : goal.value_known-requires-clause-form
value_known-requires-clause-form c =
    let v = versions c.args.s.now in
    let config = c.args.config.now in
    let field = c.args.field.now in
    let e = tree_of c.args.e.now in
    let found : field_in v.unit.fields config field ≡ Some (c.in-Some.number.0, control_kind c.in-Some.kind) =
    ap (λ (u : Program). field_in u.fields config field) (sym c.requires.unit) ∙ sym c.in-Some.ensures in
    ap (λ (o : Option (ℕ × Kind)). value_has_form (kind_or o) e) (sym found) ∙ c.requires.form

pub returns : goal.returns
returns c =
    let v = versions c.args.s.now in
    let k = c.args.on.now.number.0 in
    let p = procedure c.args.on.now.proc.now in
    let t = target c.args.on.now in
    let config = c.args.config.now in
    let field = c.args.field.now in
    let e = tree_of c.args.e.now in
    let b = plain_beside c.in_ok-beside.beside in
    let found : field_in v.unit.fields config field ≡ Some (c.in-Some.number.0, control_kind c.in-Some.kind) =
    ap (λ (u : Program). field_in u.fields config field) (sym c.requires.unit) ∙ sym c.in-Some.ensures in
    let same : t ≡ lines.target v k p =
    ap₂ (λ (u : Program) (os : List Origin). record { unit = u; origins = os; number = k; proc = p })
    c.requires.unit c.requires.origins in
    subst (λ m. Makes plain_proposal m c.written.result)
    (sym
    (asked_there v k p
    (λ v. is_some (field_in v.unit.fields config field) && knows_fields v.unit.fields e)
    (plain_asked c.args.at.now) beside_in
    (λ v t b. record {
      rule =
          write_rule (config_side b.side) (number_or (field_named config field v))
          (value_at t b.path b.side (kind_or (field_in v.unit.fields config field)) e);
      at = b.path;
    })
    t same
    (both_known _ _ (ap (λ (o : Option (ℕ × Kind)). if_known (is_some o)) found)
    (known_in v k p t same (λ fs. knows_fields fs e) c.in_ok-value_known.ensures))
    b c.in_ok-beside.ensures
    ∙ ap (λ (o : Option (ℕ × Kind)). as_tried
    (proposed
    (write_rule (config_side b.side) (number_or (option_map (λ f. f.0) o))
    (value_at t b.path b.side (kind_or o) e))
    t b.path)) found))
    c.written.ensures

pub returns-in_err-beside : goal.returns-in_err-beside
returns-in_err-beside c =
    let v = versions c.args.s.now in
    let k = c.args.on.now.number.0 in
    let p = procedure c.args.on.now.proc.now in
    let t = target c.args.on.now in
    let config = c.args.config.now in
    let field = c.args.field.now in
    let e = tree_of c.args.e.now in
    let found : field_in v.unit.fields config field ≡ Some (c.in-Some.number.0, control_kind c.in-Some.kind) =
    ap (λ (u : Program). field_in u.fields config field) (sym c.requires.unit) ∙ sym c.in-Some.ensures in
    let same : t ≡ lines.target v k p =
    ap₂ (λ (u : Program) (os : List Origin). record { unit = u; origins = os; number = k; proc = p })
    c.requires.unit c.requires.origins in
    let why = c.in_err-beside.field-0.0 in
    made_failed plain_proposal
    (planned v k p
    (field_call (plain_asked c.args.at.now) config field e (λ side f a. write_rule (config_side side) f a)))
    c.from_residual-in_err-beside.result why c.from_residual-in_err-beside.ensures.1
    (asked_lost v k p
    (λ v. is_some (field_in v.unit.fields config field) && knows_fields v.unit.fields e)
    (plain_asked c.args.at.now) beside_in
    (λ v t b. record {
      rule =
          write_rule (config_side b.side) (number_or (field_named config field v))
          (value_at t b.path b.side (kind_or (field_in v.unit.fields config field)) e);
      at = b.path;
    })
    (both_known _ _ (ap (λ (o : Option (ℕ × Kind)). if_known (is_some o)) found)
    (known_in v k p t same (λ fs. knows_fields fs e) c.in_ok-value_known.ensures))
    why c.in_err-beside.ensures)

pub returns-in_err-value_known : goal.returns-in_err-value_known
returns-in_err-value_known c =
    let v = versions c.args.s.now in
    let k = c.args.on.now.number.0 in
    let p = procedure c.args.on.now.proc.now in
    let t = target c.args.on.now in
    let config = c.args.config.now in
    let field = c.args.field.now in
    let e = tree_of c.args.e.now in
    let found : field_in v.unit.fields config field ≡ Some (c.in-Some.number.0, control_kind c.in-Some.kind) =
    ap (λ (u : Program). field_in u.fields config field) (sym c.requires.unit) ∙ sym c.in-Some.ensures in
    let same : t ≡ lines.target v k p =
    ap₂ (λ (u : Program) (os : List Origin). record { unit = u; origins = os; number = k; proc = p })
    c.requires.unit c.requires.origins in
    let why = c.in_err-value_known.field-0.0 in
    made_failed plain_proposal
    (planned v k p
    (field_call (plain_asked c.args.at.now) config field e (λ side f a. write_rule (config_side side) f a)))
    c.from_residual.result why c.from_residual.ensures.1
    (asked_unknown v k p
    (λ v. is_some (field_in v.unit.fields config field) && knows_fields v.unit.fields e)
    (plain_asked c.args.at.now) beside_in
    (λ v t b. record {
      rule =
          write_rule (config_side b.side) (number_or (field_named config field v))
          (value_at t b.path b.side (kind_or (field_in v.unit.fields config field)) e);
      at = b.path;
    })
    why
    (second_unknown _ _ (ap (λ (o : Option (ℕ × Kind)). if_known (is_some o)) found) why
    (unknown_in v k p t same (λ fs. knows_fields fs e) why c.in_err-value_known.ensures)))
