-- What a match gives for each parameter.
use Rattle.std.specs.Prelude.{◌≡◌, true, List}
use Rattle.exo_tree.specs.Tree.{Argument, Block, Procedure}
use Rattle.affine_forms.specs.Forms.{Reading}
use Rattle.match_laws.specs.Names.{Names}
use Rattle.match_laws.specs.Matched.{Arguments, matched}
use Rattle.match_laws.specs.Inline.MovedIsPut.{are_of_kinds}

-- numbers and conditions for control parameters, names and windows for buffer parameters
abbrev pub KindsMatch : Type 0
KindsMatch =
    (at : Reading) (theirs : Names) (block : Block) (q : Procedure) (args : List Argument)
    → matched at theirs block q ≡ Arguments args
    → are_of_kinds q.params args ≡ true
