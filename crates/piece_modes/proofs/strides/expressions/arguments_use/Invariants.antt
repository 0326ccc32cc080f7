-- Those that are left use it just where all do.
use Rattle.std.proofs.Common.{◌≡◌, map, drop}
use Rattle.exo_tree.specs.PlainArgument.{argument}
use Rattle.exo_modes.specs.Aliases.{roots_in}
use Rattle.buffer_laws.specs.Stride.Strides.{arguments_use}
use Rattle.piece_modes.proofs.strides.expressions.arguments_use.Given as goal

abbrev pub invariant-loop-a : goal.invariant-loop-a
invariant-loop-a l =
    arguments_use (roots_in l.aliases) l.y l.args
    ≡ arguments_use (roots_in l.aliases) l.y (map argument (drop l.a-index l.a-items))
