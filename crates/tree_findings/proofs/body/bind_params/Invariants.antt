-- The parameters so far, and the rest.
use Rattle.std.proofs.Common.{◌≡◌, drop, map}
use Rattle.exo_tree.specs.PlainParam.{parameter}
use Rattle.exo_meaning.specs.Units.{scope_of}
use Rattle.tree_findings.specs.Walked.{walk_scope}
use Rattle.tree_findings.proofs.body.bind_params.Given as goal

abbrev pub invariant-loop-p : goal.invariant-loop-p
invariant-loop-p l = (scope_of (walk_scope l.walk) (map parameter (drop l.p-index l.params)) ≡ scope_of (walk_scope l.initial.walk) (map parameter l.params)) × (l.walk.aliases.items ≡ l.initial.walk.aliases.items)
