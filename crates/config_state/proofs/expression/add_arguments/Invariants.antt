use Rattle.std.specs.Prelude.{map, drop}
use Rattle.exo_tree.specs.PlainArgument.{argument}
use Rattle.meaning_laws.specs.Live.{read_by_arguments}
use Rattle.config_state.specs.FieldSets.{Marked}
use Rattle.config_state.proofs.expression.add_arguments.Given as goal

-- what is left would add to the set what all would add to the set as it was
abbrev pub invariant-loop-a : goal.invariant-loop-a
invariant-loop-a l = (new : _) → Marked (λ f. read_by_arguments f (map argument (drop l.a-index l.a-items))) l.set new → Marked (λ f. read_by_arguments f l.args) l.initial.set new
