-- The claims so far, and those of the rest of the block.
use Rattle.std.proofs.Common.{◌≡◌, ◌++◌, ◌+◌, ◌*◌, ◌<◌, true, drop, map, length}
use Rattle.exo_tree.specs.Tree.{block}
use Rattle.exo_tree.specs.PlainPlace.{branch_taken}
use Rattle.exo_tree.specs.Nodes.{nodes, nodes_of}
use Rattle.exo_tree.specs.PlainStatement.{statement}
use Rattle.exo_tree.specs.PlainUnit.{program}
use Rattle.exo_meaning.specs.Units.{levels}
use Rattle.affine_places.specs.Seen.{roots_in}
use Rattle.text_show.specs.Seen.{words_in}
use Rattle.check_claims.specs.Claims.{block_claims}
use Rattle.check_claims.specs.PlainClaim.{placed}
use Rattle.check_claims.specs.Seen.{extents_in}
use Rattle.check_claims.specs.Short.{is_short_inside}
use Rattle.check_claims.proofs.walk.+walk.Given as goal

abbrev pub invariant-put_block-loop-k : goal.invariant-put_block-loop-k
invariant-put_block-loop-k l =
    let claims = block_claims (words_in l.site.words.now) (program l.site.unit.now) (extents_in l.site.extents.now) (roots_in l.site.roots.now) l.outer (branch_taken l.branch) in
    record {
      made : map placed l.out.items ++ claims l.k (block (drop l.k l.b)) ≡ map placed l.initial.out.items ++ claims 0 (block l.b);
      inside : is_short_inside (block (drop l.k l.b)) ≡ true;
      levels : length l.outer + levels (block (drop l.k l.b)) < 33;
    }

abbrev pub decreases-put_block : goal.decreases-put_block
decreases-put_block l = 2 * nodes_of l.b.now + 1

abbrev pub decreases-put_inner : goal.decreases-put_inner
decreases-put_inner l = 2 * nodes (statement l.s.now)
