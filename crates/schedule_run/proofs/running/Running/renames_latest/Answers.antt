use Rattle.std.proofs.Common.{◌≡◌, Option, Some, refl, sym, ap, ◌∙◌, subst}
use Rattle.std.proofs.lemmas.Bool.{eqb-true}
use Rattle.std.specs.Prelude.{slice_get, IfSome}
use Rattle.exo_tree.specs.Tree.{Procedure}
use Rattle.exo_tree.specs.PlainUnit.{program}
use Rattle.cursor_forward.specs.Proposals.{Plan}
use Rattle.tree_laws.specs.Findings.Versions.{with_version}
use Rattle.schedule_calls.specs.PlainRequest.{plain_operation}
use Rattle.schedule_calls.specs.declared.request.Operation.{Operation}
use Rattle.schedule_laws.specs.Versions.Versions.{version_at}
use Rattle.schedule_laws.specs.Operators.Operators.{call_of}
use Rattle.schedule_run.specs.Planned.{Got, planned_of}
use Rattle.schedule_run.specs.Running.{AreKept, versions_in}
use Rattle.schedule_run.specs.declared.running.Latest.{Latest}
use Rattle.schedule_run.proofs.Renaming.{renamed_owes}
use Rattle.schedule_run.proofs.running.Running.renames_latest.Goals as goal

pub returns-in-Some : goal.returns-in-Some
returns-in-Some c = λ is.
    let v = versions_in c.args.self.now in
    let l = c.in-Some.latest in
    let k = c.args.k.0 in
    let there : c.args.self.now.latest ≡ Some l = c.in-Some.is in
    let kept = subst (λ (o : Option Latest). IfSome o (λ l. (p : Procedure)
    → slice_get v.unit.procedures l.version.0 ≡ Some p → AreKept l.owed.items v.unit p))
    there c.requires.latest in
    subst (λ (o : Option Latest). IfSome o (λ l. (m : Plan)
    → planned_of v (call_of (plain_operation c.args.operation.now)) k ≡ Got m
    → AreKept l.owed.items (with_version v.unit m.proc) m.proc)) (sym there)
    (λ m planned. renamed_owes c.renamed_versions_owe_the_same.ensures c.own_names_stay.ensures
    c.procedures_keep_rules.ensures v k c.in-Rename.field-0 c.requires.formed l.owed.items
    (λ p at. kept p (ap (slice_get v.unit.procedures) (eqb-true l.version.0 k is) ∙ at))
    (version_at v k) refl m
    (ap (λ (o : Operation). planned_of v (call_of (plain_operation o)) k) (sym c.in-Rename.is)
    ∙ planned))
