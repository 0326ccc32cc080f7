-- What is marked, and what the rest of the block touches; the names from before the block are kept.
use Rattle.std.proofs.Common.{◌≡◌, ◌≤◌, drop, take, length}
use Rattle.exo_tree.specs.Tree.{block}
use Rattle.exo_modes.specs.Marks.{together, block_marks}
use Rattle.exo_modes.specs.Aliases.{roots_in}
use Rattle.exo_modes.specs.Seen.{row_says, rows_say}
use Rattle.exo_modes.proofs.walk.+walk.Given as goal

abbrev pub invariant-walk_block-loop-k : goal.invariant-walk_block-loop-k
invariant-walk_block-loop-k l =
    (together (row_says l.row) (block_marks l.above.procs.now (rows_say l.above.rows.now) (roots_in l.aliases.items) (block (drop l.k l.b))) ≡ together (row_says l.initial.row) (block_marks l.above.procs.now (rows_say l.above.rows.now) (roots_in l.initial.aliases.items) (block l.b)))
    × ((take l.known l.aliases.items ≡ l.initial.aliases.items) × (l.known ≤ length l.aliases.items))
