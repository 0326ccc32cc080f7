-- What is known of the field after the other statements.
use Rattle.std.proofs.Common.{◌≡◌, ◌≤◌, ◌+◌, true, drop, length}
use Rattle.exo_tree.specs.Tree.{block}
use Rattle.exo_tree.specs.PlainPlace.{branch_taken}
use Rattle.exo_meaning.specs.Units.{levels}
use Rattle.affine_places.specs.Rules.{block_keeps_rules}
use Rattle.check_facts.specs.Values.{plain_value}
use Rattle.check_facts.specs.Walks.{telling_of, value_at_end}
use Rattle.check_facts.proofs.after.+after.Given as goal

abbrev pub decreases-after : goal.decreases-after
decreases-after l = goal.size-after l

abbrev pub decreases-at_end : goal.decreases-at_end
decreases-at_end l = goal.size-at_end l

abbrev pub invariant-at_end-loop-k : goal.invariant-at_end-loop-k
invariant-at_end-loop-k l = record {
  value : value_at_end (telling_of l.basis) l.f.0 l.outer (branch_taken l.branch) l.k (block (drop l.k l.b)) (plain_value l.now) ≡ value_at_end (telling_of l.basis) l.f.0 l.outer (branch_taken l.branch) 0 (block l.b) (plain_value l.fn.value);
  rules : block_keeps_rules (block (drop l.k l.b)) ≡ true;
  room : length l.outer + levels (block (drop l.k l.b)) ≤ 32;
}
