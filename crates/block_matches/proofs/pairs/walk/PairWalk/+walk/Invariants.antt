-- The pairs so far, and those of the rest of the blocks.
use Rattle.std.proofs.Common.{◌≡◌, ◌++◌, ◌+◌, ◌*◌, drop, map}
use Rattle.exo_tree.specs.Tree.{block}
use Rattle.exo_tree.specs.Nodes.{nodes, nodes_of}
use Rattle.exo_tree.specs.PlainPlace.{branch_taken}
use Rattle.exo_tree.specs.PlainStatement.{statement}
use Rattle.match_laws.specs.Pairs.{blocks_paired}
use Rattle.block_matches.specs.Pairs.PlainPair.{plain_pair}
use Rattle.block_matches.specs.Pairs.Walks.{below, in_walk}
use Rattle.block_matches.proofs.pairs.walk.PairWalk.+walk.Given as goal

abbrev pub invariant-push_block-loop-k : goal.invariant-push_block-loop-k
invariant-push_block-loop-k l =
    let rest = in_walk blocks_paired l.self (below l.outer) (branch_taken l.branch) in
    map plain_pair l.out.items ++ rest l.k (block (drop l.k l.body)) (block (drop l.k l.against))
    ≡ map plain_pair l.initial.out.items ++ rest 0 (block l.body) (block l.against)

abbrev pub decreases-push_block : goal.decreases-push_block
decreases-push_block l = 2 * nodes_of l.body.now + 1

abbrev pub decreases-push_statement : goal.decreases-push_statement
decreases-push_statement l = 2 * nodes (statement l.s.now)
