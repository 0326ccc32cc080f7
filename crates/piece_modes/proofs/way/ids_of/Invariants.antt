-- The ids so far, and those of the rest.
use Rattle.std.proofs.Common.{◌≡◌, ◌++◌, drop, map}
use Rattle.exo_tree.specs.Tree.{Param}
use Rattle.exo_tree.specs.PlainParam.{parameter}
use Rattle.piece_modes.proofs.way.ids_of.Given as goal

abbrev pub invariant-loop-p : goal.invariant-loop-p
invariant-loop-p l =
    l.ids.items ++ map (λ (q : Param). q.binder.id) (map parameter (drop l.p-index l.params))
    ≡ map (λ (q : Param). q.binder.id) (map parameter l.params)
