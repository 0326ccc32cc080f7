-- The claims and the window so far, and the places of the rest of the block.
use Rattle.std.proofs.Common.{◌≡◌, ◌+◌, ◌*◌, ◌<◌, true, drop, map, length}
use Rattle.exo_tree.specs.Tree.{block}
use Rattle.exo_tree.specs.PlainPlace.{branch_taken}
use Rattle.exo_tree.specs.Nodes.{nodes, nodes_of}
use Rattle.exo_tree.specs.PlainStatement.{statement}
use Rattle.exo_tree.specs.PlainUnit.{program}
use Rattle.exo_meaning.specs.Units.{levels}
use Rattle.affine_places.specs.Seen.{roots_in}
use Rattle.text_show.specs.Seen.{words_in}
use Rattle.check_claims.specs.PlainClaim.{placed}
use Rattle.check_claims.specs.Places.{block_places, with_places}
use Rattle.check_claims.specs.Seen.{extents_in}
use Rattle.check_claims.specs.Short.{is_short_inside}
use Rattle.check_claims.proofs.parts.+walk.Given as goal

abbrev pub invariant-put_block_places-loop-k : goal.invariant-put_block_places-loop-k
invariant-put_block_places-loop-k l =
    let places = block_places (words_in l.site.words.now) (program l.site.unit.now) (extents_in l.site.extents.now) (roots_in l.site.roots.now) l.outer (branch_taken l.branch) in
    record {
      made : with_places (map placed l.out.items, l.window) (places l.k (block (drop l.k l.b)))
          ≡ with_places (map placed l.initial.out.items, l.initial.window) (places 0 (block l.b));
      inside : is_short_inside (block (drop l.k l.b)) ≡ true;
      levels : length l.outer + levels (block (drop l.k l.b)) < 33;
    }

abbrev pub decreases-put_block_places : goal.decreases-put_block_places
decreases-put_block_places l = 3 * nodes_of l.b.now + 1

abbrev pub decreases-put_inner_places : goal.decreases-put_inner_places
decreases-put_inner_places l = 3 * nodes (statement l.s.now)

abbrev pub decreases-put_under : goal.decreases-put_under
decreases-put_under l = 3 * nodes_of l.b.now + 2
