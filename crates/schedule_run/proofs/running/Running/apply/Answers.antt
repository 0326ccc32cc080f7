use Rattle.std.proofs.Common.{◌≡◌, List, Some, sym, ap, ◌∙◌, subst}
use Rattle.std.specs.Prelude.{OnOk}
use Rattle.std.proofs.lemmas.Option.{IfSome_then}
use Rattle.affine_systems.specs.Outcomes.{Owed}
use Rattle.ob_check.specs.Held.{held}
use Rattle.unit_check.specs.Cached.{discharged_all}
use Rattle.cursor_forward.specs.PlainProposal.{plain_proposal}
use Rattle.schedule_calls.specs.PlainRequest.{plain_operation}
use Rattle.schedule_laws.specs.Versions.Versions.{version_of}
use Rattle.schedule_laws.specs.Versions.Lines.{Progress, Apply, performed}
use Rattle.schedule_laws.specs.Operators.Operators.{call_of}
use Rattle.schedule_run.specs.Cached.{lists_for, lists_of}
use Rattle.schedule_run.specs.Outcomes.{Performs}
use Rattle.schedule_run.specs.Planned.{Not, planned_of, stepped}
use Rattle.schedule_run.specs.Running.{versions_in}
use Rattle.schedule_run.proofs.Caching.{lists_are}
use Rattle.schedule_run.proofs.Going.{performed_failed}
use Rattle.schedule_run.proofs.Plans.{says}
use Rattle.schedule_run.proofs.Stepping.{applied_is}
use Rattle.schedule_run.proofs.running.Running.apply.Goals as goal

pub returns-in_err-made-clause-performs : goal.returns-in_err-made-clause-performs
returns-in_err-made-clause-performs g c =
    let v = versions_in c.args.self.now in
    let name = c.args.bind.now in
    let o = plain_operation c.args.operation.now in
    let k = c.in-Some.k.0 in
    let is =
    applied_is v name k c.args.of.now (call_of o) (sym c.is_formed.ensures ∙ c.if-not-is_formed.false)
    (ap (version_of v) (sym c.as_slice.ensures) ∙ sym c.in-Some.ensures) in
    performed_failed (performed v (Apply name c.args.of.now (call_of o))) v
    c.from_residual.result c.in_err-made.field-0.0 c.from_residual.ensures.1
    (says (λ y. planned_of v (call_of o) k ≡ Not y) _ (λ y h. is ∙ ap (stepped v name k) h)
    c.in_err-made.field-0.0 c.in_err-made.ensures.made)

pub returns-clause-performs : goal.returns-clause-performs
returns-clause-performs g c =
    let v = versions_in c.args.self.now in
    let name = c.args.bind.now in
    let o = plain_operation c.args.operation.now in
    let k = c.in-Some.k.0 in
    let is =
    applied_is v name k c.args.of.now (call_of o) (sym c.is_formed.ensures ∙ c.if-not-is_formed.false)
    (ap (version_of v) (sym c.as_slice.ensures) ∙ sym c.in-Some.ensures) in
    subst (λ (p : Progress). Performs p (versions_in c.add.new.self) c.add.result)
    (sym (is ∙ ap (stepped v name k) c.in_ok-made.ensures.made)) c.add.ensures.performs

pub returns-clause-cache : goal.returns-clause-cache
returns-clause-cache g c =
    let v = versions_in c.args.self.now in
    let name = c.args.bind.now in
    let of = c.args.of.now in
    let call = call_of (plain_operation c.args.operation.now) in
    let k = c.in-Some.k.0 in
    let m = plain_proposal c.in_ok-made.made in
    let there : version_of v of ≡ Some k =
    ap (version_of v) (sym c.as_slice.ensures) ∙ sym c.in-Some.ensures in
    let are : lists_of v (Apply name of call) ≡ lists_for v m =
    lists_are v name of call k m there c.in_ok-made.ensures.made in
    subst (λ (ls : List (List Owed)). OnOk c.add.result (held c.add.new.cache ≡ discharged_all (held c.args.cache.now) ls))
    (sym are) c.add.ensures.cache

pub add-requires-clause-renames : goal.add-requires-clause-renames
add-requires-clause-renames g c κs within = λ is.
    IfSome_then c.args.self.now.latest (c.renames_latest-renames.ensures is)
    (λ l kept. kept (plain_proposal c.in_ok-made.made) c.in_ok-made.ensures.made)
