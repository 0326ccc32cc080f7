-- How large expressions are, and that their parts are smaller.
use Rattle.std.proofs.Common.{◌≡◌, ℕ, suc, ◌+◌, ◌<◌, ap, arith}
use Rattle.exo_tree.specs.Tree.{Datum, Const, Read, Negated, Relu, Plus, Minus, Times, Select}
use Rattle.exo_tree.specs.PlainDatum.{datum}
use Rattle.exo_tree.specs.declared.data.DataExpr.{DataExpr}

abbrev pub weight : Datum → ℕ
weight (Const n) = 1
weight (Read x is) = 1
weight (Negated a) = suc (weight a)
weight (Relu a) = suc (weight a)
weight (Plus a b) = suc (suc (weight a + weight b))
weight (Minus a b) = suc (suc (weight a + weight b))
weight (Times a b) = suc (suc (weight a + weight b))
weight (Select a b c d) = suc (suc (weight a + weight b) + suc (weight c + weight d))

abbrev pub weighs : DataExpr → ℕ
weighs e = weight (datum e)

-- what equals two of the four parts of a selection that weighs n is lighter
module _ (a b c d r s : DataExpr) (n : ℕ)
    (h : suc (suc (weighs a + weighs b) + suc (weighs c + weighs d)) ≡ n) where
  pub first_two : r ≡ a → s ≡ b → suc (weighs r + weighs s) < n
  first_two e f = omega (arith, h, ap weighs e, ap weighs f)

  pub last_two : r ≡ c → s ≡ d → suc (weighs r + weighs s) < n
  last_two e f = omega (arith, h, ap weighs e, ap weighs f)
