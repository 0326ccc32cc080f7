use Rattle.std.specs.Prelude.{map, drop}
use Rattle.exo_tree.specs.PlainParam.{parameter}
use Rattle.meaning_laws.specs.UnitFields.{read_by_params}
use Rattle.config_state.specs.FieldSets.{Marked}
use Rattle.config_state.proofs.expression.add_params.Given as goal

-- what is left would add to the set what all would add to the set as it was
abbrev pub invariant-loop-p : goal.invariant-loop-p
invariant-loop-p l = (new : _) → Marked (λ f. read_by_params f (map parameter (drop l.p-index l.p-items))) l.set new → Marked (λ f. read_by_params f l.params) l.initial.set new
