use Rattle.std.proofs.Common.{◌≡◌, ◌++◌, take, map}
use Rattle.exo_tree.specs.PlainStatement.{statement}
use Rattle.exo_tree.proofs.block.Block.append_each.Given as goal

abbrev pub invariant-loop-s : goal.invariant-loop-s
invariant-loop-s l = l.self ≡ l.initial.self ++ map (λ r. statement r.value) (take l.s-index l.s-items)
