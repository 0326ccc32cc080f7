-- Nothing is refused so far, behind what is owed before.
use Rattle.std.proofs.Common.{◌≡◌, true, List, map, length}
use Rattle.std.specs.List.{list_all}
use Rattle.exo_tree.specs.PlainProcedure.{procedure}
use Rattle.exo_tree.specs.PlainUnit.{program}
use Rattle.affine_systems.specs.Amounts.{IsAmount}
use Rattle.affine_systems.specs.Outcomes.{Owed}
use Rattle.check_claims.specs.PlainClaim.{placed}
use Rattle.bounds_check.specs.Laws.{may_be_owed}
use Rattle.bounds_check.proofs.Refusing.{FineSoFar}
use Rattle.bounds_check.proofs.listing.find_refusal.Given as goal

abbrev pub invariant-loop-first : goal.invariant-loop-first
invariant-loop-first l = record {
  goes : l.walk ≡ (program l.site.unit.now, procedure l.site.proc.now);
  owable : list_all (may_be_owed (procedure l.site.proc.now)) (map placed l.rest) ≡ true;
  fine : (os : List Owed) → IsAmount os l.fn.before
      → FineSoFar (program l.site.unit.now) (procedure l.site.proc.now) os (map placed l.claims) (map placed l.rest) l.amount;
}

abbrev pub decreases-loop-first : goal.decreases-loop-first
decreases-loop-first l = length l.rest
