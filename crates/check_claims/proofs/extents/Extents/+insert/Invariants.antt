-- The extents that the rest of a block gives.
use Rattle.std.proofs.Common.{◌≡◌, drop}
use Rattle.exo_tree.specs.Tree.{block}
use Rattle.check_claims.specs.Extents.{with_block}
use Rattle.check_claims.specs.Seen.{extents_in}
use Rattle.check_claims.proofs.extents.Extents.+insert.Given as goal

abbrev pub invariant-insert_block-loop-k : goal.invariant-insert_block-loop-k
invariant-insert_block-loop-k l = with_block (block (drop l.k l.b)) (extents_in l.self) ≡ with_block (block l.b) (extents_in l.initial.self)
