-- The row so far, and the words of the parameters that are left.
use Rattle.std.proofs.Common.{◌≡◌, ◌++◌, map, drop, length}
use Rattle.exo_tree.specs.PlainParam.{parameter}
use Rattle.exo_tree.specs.PlainProcedure.{procedure}
use Rattle.exo_tree.specs.PlainUnit.{program}
use Rattle.buffer_laws.specs.Stride.Strides.{sees_strides}
use Rattle.piece_modes.specs.Strides.Seen.{seen_of, first_world, first_see}
use Rattle.piece_modes.proofs.strides.table.row_of.Given as goal

abbrev pub invariant-loop-x : goal.invariant-loop-x
invariant-loop-x l =
    let u = program l.above.unit.now in
    let n = length l.above.rows.now in
    let sees = sees_strides (first_world u n) (first_see u n) (procedure l.p) in
    l.row.items ++ seen_of sees (map parameter (drop l.x-index l.x-items)) ≡ seen_of sees (procedure l.p).params
