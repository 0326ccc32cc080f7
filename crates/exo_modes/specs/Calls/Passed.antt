-- Through which procedures calls are followed, as the program tells it.
use Rattle.std.specs.Prelude.{Bool, true, false, Some, None}
use Rattle.exo_tree.specs.Tree.{Procedure}
use Rattle.exo_modes.specs.declared.calls.closure.Through.{Through}
use Rattle.exo_modes.specs.declared.calls.closure.Through.TheVariants.{All, Functions}

-- a procedure without a template is printed as a function
abbrev pub is_function : Procedure → Bool
is_function p = elim p.template [ None ↦ true | Some text ↦ false ]

abbrev pub passed : Through → Procedure → Bool
passed All p = true
passed Functions p = is_function p
