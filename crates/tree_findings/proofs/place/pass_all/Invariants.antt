-- What the statements so far bind.
use Rattle.std.proofs.Common.{◌≡◌, take}
use Rattle.tree_findings.specs.Placed.{scope_behind_all}
use Rattle.tree_findings.specs.Walked.{walk_scope}
use Rattle.tree_findings.proofs.place.pass_all.Given as goal

abbrev pub invariant-loop-k : goal.invariant-loop-k
invariant-loop-k l = walk_scope l.walk ≡ scope_behind_all (take l.k l.b) (walk_scope l.initial.walk)
