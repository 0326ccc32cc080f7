use Rattle.std.proofs.Common.{◌≡◌, map, length}
use Rattle.exo_tree.specs.PlainProcedure.{procedure}
use Rattle.exo_tree.specs.PlainUnit.{program}
use Rattle.check_claims.specs.PlainClaim.{placed}
use Rattle.bounds_check.proofs.Groups.{Onward}
use Rattle.bounds_check.proofs.list.obligations_of_claims.Given as goal

abbrev pub invariant-loop-first : goal.invariant-loop-first
invariant-loop-first l = record {
  goes : l.walk ≡ (program l.site.unit.now, procedure l.site.proc.now);
  left : Onward (program l.site.unit.now) (procedure l.site.proc.now) (map placed l.claims) l.out (map placed l.rest);
}

abbrev pub decreases-loop-first : goal.decreases-loop-first
decreases-loop-first l = length l.rest
