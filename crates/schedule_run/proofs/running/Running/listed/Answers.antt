use Rattle.std.proofs.Common.{◌≡◌, true, true≢false, Global, Option, Some, sym, subst}
use Rattle.std.specs.Prelude.{Ok, Err, IfSome, slice_get}
use Rattle.exo_tree.specs.Tree.{Procedure}
use Rattle.exo_tree.specs.PlainUnit.{program}
use Rattle.bounds_check.specs.Outcomes.{AreObligationsIn}
use Rattle.schedule_run.specs.Running.{AreKept, MarkHolds}
use Rattle.schedule_run.specs.declared.running.Latest.{Latest}
use Rattle.schedule_run.proofs.Settling.{refusal_of}
use Rattle.schedule_run.proofs.running.Running.listed.Goals as goal

pub returns-in-Some-clause-listed : goal.returns-in-Some-clause-listed
returns-in-Some-clause-listed g c = λ q at.
    subst (λ (o : Option Latest). IfSome o (λ l. (q : Procedure)
    → slice_get (program c.args.self.now.session.unit).procedures c.args.p.0 ≡ Some q
    → AreKept l.owed.items (program c.args.self.now.session.unit) q))
    c.in-Some.is (c.requires.renames c.if-renames.true) q at

pub returns-in-Some-clause-mark : goal.returns-in-Some-clause-mark
returns-in-Some-clause-mark g c = λ es holds is.
    subst (λ (o : Option Latest). MarkHolds o es) c.in-Some.is holds is

pub returns-in_err-owed-clause-listed : goal.returns-in_err-owed-clause-listed
returns-in_err-owed-clause-listed g c = λ q at.
    refusal_of (program c.args.self.now.session.unit) q c.from_residual.result
    c.in_err-owed.field-0.0
    c.from_residual.ensures.1
    (subst (λ (o : Option Procedure). AreObligationsIn {A = Global} (Err c.in_err-owed.field-0.0)
    (program c.args.self.now.session.unit) o) at c.in_err-owed.ensures)

pub returns-clause-listed : goal.returns-clause-listed
returns-clause-listed g c = λ q at.
    subst (λ (o : Option Procedure). AreObligationsIn {A = Global} (Ok c.in_ok-owed.owed)
    (program c.args.self.now.session.unit) o) at c.in_ok-owed.ensures

pub returns-clause-mark : goal.returns-clause-mark
returns-clause-mark g c = λ es holds is. absurd (true≢false (sym is))

pub returns-in-Some-with_store-clause-listed : goal.returns-in-Some-with_store-clause-listed
returns-in-Some-with_store-clause-listed g c = λ q at. c.in-Some-with_store.ensures q at

pub returns-in-Some-with_store-clause-mark : goal.returns-in-Some-with_store-clause-mark
returns-in-Some-with_store-clause-mark g c = λ es holds is. absurd (true≢false (sym is))
