-- Arguments that are chosen one after the other.
use Rattle.std.specs.Prelude.{List, ◌++◌, Option, Some, None, Result, Ok, Err}
use Rattle.exo_tree.specs.Tree.{Argument}
use Rattle.exo_tree.specs.Places.{Path}

abbrev pub put_behind : List Argument → Result (List Argument) Path → Result (List Argument) Path
put_behind args (Err p) = Err p
put_behind args (Ok rest) = Ok (args ++ rest)

-- Some is where the block differs
abbrev pub outcome : Option Path → List Argument → Result (List Argument) Path
outcome None args = Ok args
outcome (Some p) args = Err p
