-- None of the statements before leaves a name.
use Rattle.std.proofs.Common.{◌≡◌, drop}
use Rattle.exo_tree.specs.Tree.{block}
use Rattle.loop_laws.specs.UnrollLoop.{leave_names}
use Rattle.loop_rewrites.proofs.together.leave_names.Given as goal

abbrev pub invariant-loop-k : goal.invariant-loop-k
invariant-loop-k l = leave_names (block l.b) ≡ leave_names (block (drop l.k l.b))
