-- The ids so far, and those of the rest.
use Rattle.std.proofs.Common.{◌≡◌, ◌++◌, drop, map}
use Rattle.exo_tree.specs.PlainParam.{parameter}
use Rattle.tree_edits.specs.Made.Ids.{param_ids}
use Rattle.tree_findings.proofs.count.put_params.Given as goal

abbrev pub invariant-loop-p : goal.invariant-loop-p
invariant-loop-p l = l.ids.items ++ param_ids (map parameter (drop l.p-index l.params)) ≡ l.initial.ids.items ++ param_ids (map parameter l.params)
