-- What a call passes for a parameter.
use Rattle.std.specs.Prelude.{ℕ, ◌==◌, if◌then◌else◌, List, [], ◌∷◌, Option, Some, None}
use Rattle.exo_tree.specs.Tree.{Argument, Param}

-- by the parameter's id
abbrev pub passed_for : List Param → List Argument → ℕ → Option Argument
passed_for [] args x = None
passed_for (p ∷ ps) [] x = None
passed_for (p ∷ ps) (a ∷ args) x = if p.binder.id == x then Some a else passed_for ps args x
