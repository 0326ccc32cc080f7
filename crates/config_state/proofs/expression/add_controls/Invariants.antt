use Rattle.std.specs.Prelude.{map, drop}
use Rattle.exo_tree.specs.PlainControl.{control}
use Rattle.meaning_laws.specs.Live.{read_by_controls}
use Rattle.config_state.specs.FieldSets.{Marked}
use Rattle.config_state.proofs.expression.add_controls.Given as goal

-- what is left would add to the set what all would add to the set as it was
abbrev pub invariant-loop-e : goal.invariant-loop-e
invariant-loop-e l = (new : _) → Marked (λ f. read_by_controls f (map control (drop l.e-index l.e-items))) l.set new → Marked (λ f. read_by_controls f l.es) l.initial.set new
