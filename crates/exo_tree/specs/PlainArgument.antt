-- The plain form of an argument.
use Rattle.exo_tree.specs.Tree as tree
use Rattle.exo_tree.specs.PlainControl.{control, condition}
use Rattle.exo_tree.specs.declared.argument.Arg.{Arg}
use Rattle.exo_tree.specs.declared.argument.Arg.TheVariants.{Ctrl, Cond, Whole, Window}

abbrev pub argument : Arg → tree.Argument
argument (Ctrl e) = tree.ControlArg (control e)
argument (Cond c) = tree.ConditionArg (condition c)
argument (Whole x) = tree.Whole x.0
argument (Window x cs) = tree.Window x.0 cs
