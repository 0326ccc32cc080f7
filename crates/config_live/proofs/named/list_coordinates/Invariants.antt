use Rattle.std.specs.Prelude.{map, drop}
use Rattle.exo_tree.specs.PlainControl.{coordinate}
use Rattle.meaning_laws.specs.Live.{read_by_coords}
use Rattle.config_live.specs.Listed.{Listed}
use Rattle.config_live.proofs.named.list_coordinates.Given as goal

-- what is left would add to the list what all would add to the list as it was
abbrev pub invariant-loop-c : goal.invariant-loop-c
invariant-loop-c l =
    (new : _) → Listed (λ f. read_by_coords f (map coordinate (drop l.c-index l.c-items))) l.list new
    → Listed (λ f. read_by_coords f l.cs) l.initial.list new
