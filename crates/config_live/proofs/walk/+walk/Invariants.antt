use Rattle.std.specs.Prelude.{drop}
use Rattle.exo_tree.specs.Tree.{block}
use Rattle.config_live.specs.Walks.{GoesOver}
use Rattle.config_live.proofs.walk.+walk.Given as goal

-- where what is left leads on, all statements led from the first way
abbrev pub invariant-go-loop-k : goal.invariant-go-loop-k
invariant-go-loop-k l =
    (new has : _) → GoesOver l.table (block (drop l.k l.b)) l.way new l.added has
    → GoesOver l.table (block (drop l.from l.b)) l.initial.way new l.initial.added has
