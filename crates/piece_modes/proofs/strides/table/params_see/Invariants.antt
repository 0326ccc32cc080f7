-- Those that are left use it just where all do.
use Rattle.std.proofs.Common.{◌≡◌, map, drop}
use Rattle.exo_tree.specs.PlainParam.{parameter}
use Rattle.buffer_laws.specs.Stride.Strides.{params_use}
use Rattle.piece_modes.proofs.strides.table.params_see.Given as goal

abbrev pub invariant-loop-x : goal.invariant-loop-x
invariant-loop-x l = params_use l.y l.params ≡ params_use l.y (map parameter (drop l.x-index l.x-items))
