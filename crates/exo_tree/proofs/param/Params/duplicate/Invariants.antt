use Rattle.std.proofs.Common.{◌≡◌, take, map}
use Rattle.exo_tree.specs.PlainParam.{parameter}
use Rattle.exo_tree.proofs.param.Params.duplicate.Given as goal

abbrev pub invariant-loop-item : goal.invariant-loop-item
invariant-loop-item l = l.copied ≡ map parameter (take l.item-index l.item-items)
