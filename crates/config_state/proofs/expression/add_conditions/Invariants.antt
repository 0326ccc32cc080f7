use Rattle.std.specs.Prelude.{map, drop}
use Rattle.exo_tree.specs.PlainControl.{condition}
use Rattle.meaning_laws.specs.UnitFields.{read_by_conditions}
use Rattle.config_state.specs.FieldSets.{Marked}
use Rattle.config_state.proofs.expression.add_conditions.Given as goal

-- what is left would add to the set what all would add to the set as it was
abbrev pub invariant-loop-c : goal.invariant-loop-c
invariant-loop-c l = (new : _) → Marked (λ f. read_by_conditions f (map condition (drop l.c-index l.c-items))) l.set new → Marked (λ f. read_by_conditions f l.cs) l.initial.set new
