-- What stands beside a session stays true where the session keeps its unit.
use Rattle.std.proofs.Common.{◌≡◌, length, Some, sym, ap, ◌∙◌, subst}
use Rattle.std.specs.Prelude.{IfSome, OnOk, Result, Ok, Err, slice_get}
use Rattle.exo_tree.specs.Tree.{Procedure}
use Rattle.exo_tree.specs.PlainUnit.{program}
use Rattle.exo_tree.specs.declared.unit.Unit as memory
use Rattle.exo_meaning.specs.Units.{IsUnit}
use Rattle.exo_modes.specs.Marks.{modes_of}
use Rattle.schedule_run.specs.Running.{AreKept, AreWrites, IsRunning}
use Rattle.schedule_run.specs.declared.running.Running.{Running}
use Rattle.schedule_run.specs.declared.session.Session.{Session}

pub stays_running : {X E : Type 0} (r : Running) (s : Session) (result : Result X E)
    → OnOk result (s.unit ≡ r.session.unit) → IsRunning r
    → OnOk result (IsRunning (record r { session = s }))
stays_running r s (Err e) same is = tt
stays_running r s (Ok x) same is = record {
  formed = subst (λ (u : memory.Unit). IsUnit (program u)) (sym same) is.formed;
  modes = is.modes ∙ ap (λ (u : memory.Unit). modes_of (program u)) (sym same);
  writes =
      subst (λ (u : memory.Unit). AreWrites (length (program u).fields) (program u).procedures
      r.writes) (sym same) is.writes;
  latest =
      subst (λ (u : memory.Unit). IfSome r.latest (λ l. (p : Procedure)
      → slice_get (program u).procedures l.version.0 ≡ Some p
      → AreKept l.owed.items (program u) p)) (sym same) is.latest;
}
