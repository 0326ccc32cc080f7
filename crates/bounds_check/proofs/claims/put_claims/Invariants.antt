use Rattle.exo_tree.specs.PlainProcedure.{procedure}
use Rattle.exo_tree.specs.PlainUnit.{program}
use Rattle.bounds_check.proofs.Resting.{Left}
use Rattle.bounds_check.proofs.claims.put_claims.Given as goal

abbrev pub invariant-loop-c : goal.invariant-loop-c
invariant-loop-c l =
    Left (program l.site.unit.now) (procedure l.site.proc.now) l.claims l.initial.out l.out l.c-index
