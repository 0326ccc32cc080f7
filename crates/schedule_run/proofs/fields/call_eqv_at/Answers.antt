use Rattle.std.proofs.Common.{◌≡◌, Some, None, sym, ap, ◌∙◌, subst}
use Rattle.exo_tree.specs.PlainProcedure.{procedure}
use Rattle.cursor_forward.specs.Proposals.{Plan}
use Rattle.cursor_forward.specs.PlainProposal.{plain_proposal}
use Rattle.call_laws.specs.Fields.FieldRules.{version_rule}
use Rattle.schedule_calls.specs.PlainRequest.{plain_asked}
use Rattle.schedule_laws.specs.Versions.Versions.{version_of}
use Rattle.schedule_laws.specs.Operators.Arguments.{version_named}
use Rattle.schedule_run.specs.Outcomes.{Makes}
use Rattle.schedule_run.specs.Planned.{Made}
use Rattle.schedule_run.specs.PlainVersions.{versions}
use Rattle.schedule_run.proofs.Asking.{numbered_there, numbered_lost}
use Rattle.schedule_run.proofs.fields.call_eqv_at.Goals as goal

pub returns-in-Some : goal.returns-in-Some
returns-in-Some c =
    let v = versions c.args.s.now in
    let k = c.args.on.now.number.0 in
    let p = procedure c.args.on.now.proc.now in
    let name = c.args.name.now in
    let there : version_named name v ≡ Some c.in-Some.version.0 =
    ap (version_of v) (sym c.as_slice.ensures) ∙ sym c.in-Some.ensures in
    subst (λ (m : Made Plan). Makes plain_proposal m c.at_statement.result)
    (sym
    (numbered_there v k p (version_named name) (plain_asked c.args.at.now) version_rule
    c.in-Some.version.0 there))
    c.at_statement.ensures

pub returns-in-None : goal.returns-in-None
returns-in-None c =
    let v = versions c.args.s.now in
    let name = c.args.name.now in
    let lost : version_named name v ≡ None =
    ap (version_of v) (sym c.as_slice.ensures) ∙ sym c.in-None.ensures in
    numbered_lost v c.args.on.now.number.0 (procedure c.args.on.now.proc.now) (version_named name)
    (plain_asked c.args.at.now) version_rule lost
