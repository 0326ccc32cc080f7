-- Which statements are passes.
use Rattle.std.specs.Prelude.{Bool, true, false}
use Rattle.exo_tree.specs.Tree.{Statement, Pass}

abbrev pub is_pass : Statement → Bool
is_pass Pass = true
is_pass a = false
