-- The plain form of a condition with its branches.
use Rattle.exo_tree.specs.Tree.{block}
use Rattle.exo_tree.specs.PlainControl.{condition}
use Rattle.proc_laws.specs.Statement.DeadCode.{Fork}
use Rattle.proc_rewrites.specs.declared.forks.ForkAt.{ForkAt}

abbrev pub plain_fork : ForkAt → Fork
plain_fork k = record {
  test = condition k.test.now;
  main = block k.main.now;
  other = block k.other.now;
}
