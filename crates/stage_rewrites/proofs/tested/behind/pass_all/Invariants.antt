-- What names stand for behind the block, from the statements that are left.
use Rattle.std.proofs.Common.{◌≡◌, drop}
use Rattle.exo_tree.specs.Tree.{block}
use Rattle.exo_modes.specs.Aliases.{roots_in}
use Rattle.buffer_laws.specs.StageMem.{roots_behind}
use Rattle.stage_rewrites.proofs.tested.behind.pass_all.Given as goal

abbrev pub invariant-loop-k : goal.invariant-loop-k
invariant-loop-k l =
    roots_behind (block (drop l.k l.b)) (roots_in l.aliases.items)
    ≡ roots_behind (block l.b) (roots_in l.initial.aliases.items)
