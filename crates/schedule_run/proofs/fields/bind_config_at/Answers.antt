use Rattle.std.proofs.Common.{◌≡◌, Some, None, sym, ap, ◌∙◌, subst}
use Rattle.std.specs.Prelude.{option_map}
use Rattle.exo_tree.specs.Tree.{Program}
use Rattle.exo_tree.specs.PlainProcedure.{procedure}
use Rattle.rules_names.specs.Names.{field_in}
use Rattle.cursor_forward.specs.Proposals.{Plan}
use Rattle.cursor_forward.specs.PlainProposal.{plain_proposal}
use Rattle.call_laws.specs.Fields.FieldRules.{bind_rule}
use Rattle.schedule_calls.specs.PlainRequest.{plain_asked}
use Rattle.schedule_laws.specs.Operators.Arguments.{field_named}
use Rattle.schedule_run.specs.Outcomes.{Makes}
use Rattle.schedule_run.specs.Planned.{Made}
use Rattle.schedule_run.specs.PlainVersions.{versions}
use Rattle.schedule_run.proofs.Asking.{numbered_there, numbered_lost}
use Rattle.schedule_run.proofs.fields.bind_config_at.Goals as goal

pub returns-in-Some : goal.returns-in-Some
returns-in-Some c =
    let v = versions c.args.s.now in
    let k = c.args.on.now.number.0 in
    let p = procedure c.args.on.now.proc.now in
    let config = c.args.config.now in
    let field = c.args.field.now in
    let there : field_named config field v ≡ Some c.in-Some.field.0 =
    ap (option_map (λ f. f.0))
    (ap (λ (u : Program). field_in u.fields config field) (sym c.requires.unit) ∙ sym c.in-Some.ensures) in
    subst (λ (m : Made Plan). Makes plain_proposal m c.at_statement.result)
    (sym
    (numbered_there v k p (field_named config field) (plain_asked c.args.at.now)
    (bind_rule c.args.param.now) c.in-Some.field.0 there))
    c.at_statement.ensures

pub returns-in-None : goal.returns-in-None
returns-in-None c =
    let v = versions c.args.s.now in
    let config = c.args.config.now in
    let field = c.args.field.now in
    let lost : field_named config field v ≡ None =
    ap (option_map (λ f. f.0))
    (ap (λ (u : Program). field_in u.fields config field) (sym c.requires.unit) ∙ sym c.in-None.ensures) in
    numbered_lost v c.args.on.now.number.0 (procedure c.args.on.now.proc.now)
    (field_named config field) (plain_asked c.args.at.now) (bind_rule c.args.param.now) lost
