-- The plain form of what goes outside.
use Rattle.exo_tree.specs.PlainControl.{condition}
use Rattle.step_targets.specs.PlainLoop.{plain_loop}
use Rattle.proc_laws.specs.Statement.LiftScope as plain
use Rattle.proc_laws.specs.Statement.LiftScope.{Lifting}
use Rattle.proc_rewrites.specs.PlainFork.{plain_fork}
use Rattle.proc_rewrites.specs.declared.liftable.LiftableAt.{LiftableAt}
use Rattle.proc_rewrites.specs.declared.liftable.LiftableAt.TheVariants.{OutOfLoop}
use Rattle.proc_rewrites.specs.declared.liftable.LiftableAt.TheVariants.{OutOfBranch, LoopOut}

abbrev pub plain_lifting : LiftableAt → Lifting
plain_lifting (OutOfLoop l k) = plain.OutOfLoop (plain_loop l) (plain_fork k)
plain_lifting (OutOfBranch c k) = plain.OutOfBranch (condition c.now) (plain_fork k)
plain_lifting (LoopOut c l) = plain.LoopOut (condition c.now) (plain_loop l)
