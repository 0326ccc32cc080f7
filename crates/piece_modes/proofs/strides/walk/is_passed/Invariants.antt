-- Those that are left are passed just where all are.
use Rattle.std.proofs.Common.{◌≡◌, map, drop}
use Rattle.exo_tree.specs.PlainArgument.{argument}
use Rattle.exo_modes.specs.Aliases.{roots_in}
use Rattle.piece_modes.specs.Strides.Seen.{passes}
use Rattle.piece_modes.proofs.strides.walk.is_passed.Given as goal

abbrev pub invariant-loop-k : goal.invariant-loop-k
invariant-loop-k l =
    passes l.row (roots_in l.aliases) l.y (map argument l.args)
    ≡ passes (drop l.k l.row) (roots_in l.aliases) l.y (map argument (drop l.k l.args))
