-- What is marked, and what the other arguments touch.
use Rattle.std.proofs.Common.{◌≡◌, drop, map}
use Rattle.exo_tree.specs.PlainParam.{parameter}
use Rattle.exo_tree.specs.PlainArgument.{argument}
use Rattle.exo_modes.specs.Marks.{together, argument_marks}
use Rattle.exo_modes.specs.Aliases.{roots_in}
use Rattle.exo_modes.specs.Seen.{row_says}
use Rattle.exo_modes.proofs.walk.mark_arguments.Given as goal

abbrev pub invariant-loop-k : goal.invariant-loop-k
invariant-loop-k l = together (row_says l.row) (argument_marks (row_says l.callee) (roots_in l.aliases) (map parameter (drop l.k l.params)) (map argument (drop l.k l.args))) ≡ together (row_says l.initial.row) (argument_marks (row_says l.callee) (roots_in l.aliases) (map parameter l.params) (map argument l.args))
