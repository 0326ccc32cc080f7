-- Those that are left use it just where all do.
use Rattle.std.proofs.Common.{◌≡◌, map, drop}
use Rattle.exo_tree.specs.PlainControl.{control}
use Rattle.exo_modes.specs.Aliases.{roots_in}
use Rattle.inplace_laws.specs.Uses.{in_controls}
use Rattle.piece_modes.proofs.strides.expressions.controls_use.Given as goal
use Rattle.buffer_laws.specs.Staging.Alone.{has_root}
use Rattle.inplace_laws.specs.CallInPlace.{no_name}

abbrev pub invariant-loop-e : goal.invariant-loop-e
invariant-loop-e l =
    in_controls no_name (has_root (roots_in l.aliases) l.y) l.list
    ≡ in_controls no_name (has_root (roots_in l.aliases) l.y) (map control (drop l.e-index l.e-items))
