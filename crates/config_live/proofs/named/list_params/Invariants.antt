use Rattle.std.specs.Prelude.{map, drop}
use Rattle.exo_tree.specs.PlainParam.{parameter}
use Rattle.meaning_laws.specs.UnitFields.{read_by_params}
use Rattle.config_live.specs.Listed.{Listed}
use Rattle.config_live.proofs.named.list_params.Given as goal

-- what is left would add to the list what all would add to the list as it was
abbrev pub invariant-loop-p : goal.invariant-loop-p
invariant-loop-p l =
    (new : _) → Listed (λ f. read_by_params f (map parameter (drop l.p-index l.p-items))) l.list new
    → Listed (λ f. read_by_params f l.params) l.initial.list new
