-- What is made, and what stands for the parts that are left.
use Rattle.std.proofs.Common.{◌≡◌, ◌++◌, map, drop}
use Rattle.exo_tree.specs.PlainParam.{parameter}
use Rattle.exo_tree.specs.PlainArgument.{argument}
use Rattle.c_tree.specs.Plain.{plain_piece}
use Rattle.c_lowering.specs.Made.Lowered.{piece_of}
use Rattle.c_lowering.specs.Scope.{forms_in}
use Rattle.c_lowering.specs.Naming.{naming_of}
use Rattle.c_lowering.specs.PlainHole.{plain_hole}
use Rattle.c_lowering.proofs.calls.pieces_of.Given as goal

abbrev pub invariant-loop-hole : goal.invariant-loop-hole
invariant-loop-hole l =
    let fill = piece_of (naming_of l.names) (forms_in l.scope) (map parameter l.params) (map argument l.args) in
    map plain_piece l.pieces.items ++ map fill (map plain_hole (drop l.hole-index l.holes)) ≡ map fill (map plain_hole l.holes)
