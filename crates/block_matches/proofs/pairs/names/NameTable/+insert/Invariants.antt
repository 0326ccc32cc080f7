-- The names that the rest of the block gives.
use Rattle.std.proofs.Common.{◌≡◌, drop}
use Rattle.exo_tree.specs.Tree.{block}
use Rattle.match_laws.specs.Names.{with_block}
use Rattle.block_matches.specs.Pairs.Held.{names_in}
use Rattle.block_matches.proofs.pairs.names.NameTable.+insert.Given as goal

abbrev pub invariant-insert_block-loop-k : goal.invariant-insert_block-loop-k
invariant-insert_block-loop-k l =
    with_block (block (drop l.k l.b)) (names_in l.self)
    ≡ with_block (block l.b) (names_in l.initial.self)
