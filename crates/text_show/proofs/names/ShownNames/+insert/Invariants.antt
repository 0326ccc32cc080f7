-- The names that the rest of a block gives.
use Rattle.std.proofs.Common.{◌≡◌, drop}
use Rattle.exo_tree.specs.Tree.{block}
use Rattle.text_show.specs.Names.{with_block}
use Rattle.text_show.specs.Seen.{names_in}
use Rattle.text_show.proofs.names.ShownNames.+insert.Given as goal

abbrev pub invariant-insert_block-loop-k : goal.invariant-insert_block-loop-k
invariant-insert_block-loop-k l = with_block (block (drop l.k l.b)) (names_in l.self) ≡ with_block (block l.b) (names_in l.initial.self)
