use Rattle.std.specs.Prelude.{map, drop}
use Rattle.exo_tree.specs.PlainArgument.{argument}
use Rattle.meaning_laws.specs.Live.{read_by_arguments}
use Rattle.config_live.specs.Listed.{Listed}
use Rattle.config_live.proofs.named.list_arguments.Given as goal

-- what is left would add to the list what all would add to the list as it was
abbrev pub invariant-loop-a : goal.invariant-loop-a
invariant-loop-a l =
    (new : _) → Listed (λ f. read_by_arguments f (map argument (drop l.a-index l.a-items))) l.list new
    → Listed (λ f. read_by_arguments f l.args) l.initial.list new
