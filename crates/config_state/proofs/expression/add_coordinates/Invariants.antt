use Rattle.std.specs.Prelude.{map, drop}
use Rattle.exo_tree.specs.PlainControl.{coordinate}
use Rattle.meaning_laws.specs.Live.{read_by_coords}
use Rattle.config_state.specs.FieldSets.{Marked}
use Rattle.config_state.proofs.expression.add_coordinates.Given as goal

-- what is left would add to the set what all would add to the set as it was
abbrev pub invariant-loop-c : goal.invariant-loop-c
invariant-loop-c l = (new : _) → Marked (λ f. read_by_coords f (map coordinate (drop l.c-index l.c-items))) l.set new → Marked (λ f. read_by_coords f l.cs) l.initial.set new
