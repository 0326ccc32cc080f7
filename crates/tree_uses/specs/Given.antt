-- What stands for a name.
use Rattle.exo_tree.specs.Tree as tree
use Rattle.exo_tree.specs.PlainArgument.{argument}
use Rattle.tree_uses.specs.declared.puts.Given.{Given}
use Rattle.tree_uses.specs.declared.puts.Given.TheVariants.{Name, Window, Argument}

abbrev pub given_argument : Given → tree.Argument
given_argument (Name y) = tree.Whole y.0
given_argument (Window y cs) = tree.Window y.0 cs.now
given_argument (Argument a) = argument a.now
