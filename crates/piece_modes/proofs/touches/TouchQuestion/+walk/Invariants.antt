-- What is found so far or in the rest of the block; the names from before the block are kept.
use Rattle.std.proofs.Common.{◌≡◌, ◌≤◌, ◌||◌, drop, take, length}
use Rattle.exo_tree.specs.Tree.{block}
use Rattle.exo_tree.specs.PlainUnit.{program}
use Rattle.exo_modes.specs.Aliases.{roots_in}
use Rattle.piece_modes.specs.PlainMode.{plain_mode}
use Rattle.piece_modes.specs.Touching.{block_touches}
use Rattle.piece_modes.proofs.touches.TouchQuestion.+walk.Given as goal

abbrev pub invariant-block_touches-loop-k : goal.invariant-block_touches-loop-k
invariant-block_touches-loop-k l =
    let touches = block_touches (program l.self.unit.now) (plain_mode l.self.mode) in
    ((l.found || touches (roots_in l.aliases.items) (block (drop l.k l.b)) l.self.buffer)
    ≡ touches (roots_in l.initial.aliases.items) (block l.b) l.self.buffer)
    × ((take l.known l.aliases.items ≡ l.initial.aliases.items) × (l.known ≤ length l.aliases.items))
