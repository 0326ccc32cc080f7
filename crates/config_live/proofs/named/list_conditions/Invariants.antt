use Rattle.std.specs.Prelude.{map, drop}
use Rattle.exo_tree.specs.PlainControl.{condition}
use Rattle.meaning_laws.specs.UnitFields.{read_by_conditions}
use Rattle.config_live.specs.Listed.{Listed}
use Rattle.config_live.proofs.named.list_conditions.Given as goal

-- what is left would add to the list what all would add to the list as it was
abbrev pub invariant-loop-c : goal.invariant-loop-c
invariant-loop-c l =
    (new : _) → Listed (λ f. read_by_conditions f (map condition (drop l.c-index l.c-items))) l.list new
    → Listed (λ f. read_by_conditions f l.cs) l.initial.list new
