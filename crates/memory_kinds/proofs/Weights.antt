-- How large expressions are.
use Rattle.std.proofs.Common.{ℕ, suc, ◌+◌}
use Rattle.exo_tree.specs.Tree.{Datum, Const, Read, Negated, Relu, Plus, Minus, Times, Select}

abbrev pub weight : Datum → ℕ
weight (Const n) = 1
weight (Read x is) = 1
weight (Negated a) = suc (weight a)
weight (Relu a) = suc (weight a)
weight (Plus a b) = suc (weight a + weight b)
weight (Minus a b) = suc (weight a + weight b)
weight (Times a b) = suc (weight a + weight b)
weight (Select a b c d) = suc ((weight a + weight b) + (weight c + weight d))
