use Rattle.std.proofs.Common.{◌≡◌, map, drop}
use Rattle.exo_tree.specs.Plain.{parameter}
use Rattle.cursor_forward.specs.Patterns.{parameter_called}
use Rattle.cursor_forward.proofs.finding.parameter_called.Given as goal

abbrev pub invariant-loop-p : goal.invariant-loop-p
invariant-loop-p l = parameter_called l.x (map parameter (drop l.p-index l.p-items)) ≡ parameter_called l.x l.params
