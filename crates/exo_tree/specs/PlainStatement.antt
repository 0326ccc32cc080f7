-- The plain form of a statement: one level, since a block is seen as a list of plain statements.
use Rattle.exo_tree.specs.Tree as tree
use Rattle.exo_tree.specs.Tree.{block}
use Rattle.exo_tree.specs.PlainBinder.{cell_type, binding}
use Rattle.exo_tree.specs.PlainControl.{control, condition}
use Rattle.exo_tree.specs.PlainDatum.{datum}
use Rattle.exo_tree.specs.PlainArgument.{argument}
use Rattle.exo_tree.specs.declared.block.Stmt.{Stmt}
use Rattle.exo_tree.specs.declared.block.Stmt.TheVariants.{Assign, Reduce, Config, Pass, If, For, Alloc, View, Call}

abbrev pub statement : Stmt → tree.Statement
statement (Assign x is e) = tree.Assign x.0 is (datum e)
statement (Reduce x is e) = tree.Reduce x.0 is (datum e)
statement (Config f a) = tree.Config f.0 (argument a)
statement Pass = tree.Pass
statement (If c a b) = tree.If (condition c) (block a) (block b)
statement (For i lo hi b) = tree.For (binding i) (control lo) (control hi) (block b)
statement (Alloc b t dims m) = tree.Alloc (binding b) (cell_type t) dims m.0
statement (View b x cs) = tree.View (binding b) x.0 cs
statement (Call p args) = tree.Call p.0 args
