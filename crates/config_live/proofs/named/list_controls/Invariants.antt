use Rattle.std.specs.Prelude.{map, drop}
use Rattle.exo_tree.specs.PlainControl.{control}
use Rattle.meaning_laws.specs.Live.{read_by_controls}
use Rattle.config_live.specs.Listed.{Listed}
use Rattle.config_live.proofs.named.list_controls.Given as goal

-- what is left would add to the list what all would add to the list as it was
abbrev pub invariant-loop-e : goal.invariant-loop-e
invariant-loop-e l =
    (new : _) → Listed (λ f. read_by_controls f (map control (drop l.e-index l.e-items))) l.list new
    → Listed (λ f. read_by_controls f l.es) l.initial.list new
