-- The statements that are left decide.
use Rattle.std.proofs.Common.{◌≡◌, suc, nat_lt, drop}
use Rattle.exo_tree.specs.Tree.{block}
use Rattle.exo_meaning.specs.Units.{levels}
use Rattle.tree_findings.proofs.count.+levels.Given as goal

abbrev pub invariant-is_flat-loop-k : goal.invariant-is_flat-loop-k
invariant-is_flat-loop-k l = nat_lt (levels (block (drop l.k l.b))) (suc l.most) ≡ nat_lt (levels (block l.b)) (suc l.most)
