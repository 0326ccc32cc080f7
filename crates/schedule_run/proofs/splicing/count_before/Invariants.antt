use Rattle.affine_systems.specs.Outcomes.{plain_obligation}
use Rattle.schedule_laws.specs.Owed.Stores.{stands_at}
use Rattle.schedule_run.proofs.Counted.{PassedOver}
use Rattle.schedule_run.proofs.splicing.count_before.Given as goal

abbrev pub invariant-loop-k : goal.invariant-loop-k
invariant-loop-k l = PassedOver plain_obligation (stands_at l.path) l.kept l.k
