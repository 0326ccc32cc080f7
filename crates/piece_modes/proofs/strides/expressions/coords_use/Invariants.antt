-- Those that are left use it just where all do.
use Rattle.std.proofs.Common.{◌≡◌, map, drop}
use Rattle.exo_tree.specs.PlainControl.{coordinate}
use Rattle.exo_modes.specs.Aliases.{roots_in}
use Rattle.inplace_laws.specs.Uses.{in_coords}
use Rattle.piece_modes.proofs.strides.expressions.coords_use.Given as goal
use Rattle.buffer_laws.specs.Staging.Alone.{has_root}
use Rattle.inplace_laws.specs.CallInPlace.{no_name}

abbrev pub invariant-loop-c : goal.invariant-loop-c
invariant-loop-c l =
    in_coords no_name (has_root (roots_in l.aliases) l.y) l.coords
    ≡ in_coords no_name (has_root (roots_in l.aliases) l.y) (map coordinate (drop l.c-index l.c-items))
