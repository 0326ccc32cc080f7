-- What is found so far or in the rest of the block; the names from before the block are kept.
use Rattle.std.proofs.Common.{◌≡◌, ◌≤◌, ◌||◌, drop, take, length}
use Rattle.exo_tree.specs.Tree.{block}
use Rattle.exo_tree.specs.PlainUnit.{program}
use Rattle.exo_modes.specs.Aliases.{roots_in}
use Rattle.piece_modes.specs.Strides.Seen.{block_sees}
use Rattle.piece_modes.proofs.strides.walk.+walk.Given as goal

abbrev pub invariant-block_sees-loop-k : goal.invariant-block_sees-loop-k
invariant-block_sees-loop-k l =
    let sees = block_sees (program l.above.unit.now) (length l.above.rows.now) in
    ((l.found || sees (roots_in l.aliases.items) (block (drop l.k l.b)) l.y)
    ≡ sees (roots_in l.initial.aliases.items) (block l.b) l.y)
    × ((take l.known l.aliases.items ≡ l.initial.aliases.items) × (l.known ≤ length l.aliases.items))
