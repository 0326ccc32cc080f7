-- Counts of statements.
use Rattle.std.proofs.Common.{◌≡◌, ◌+◌, ℕ, zero, suc, List, [], ◌∷◌, drop, take, ap, arith}
use Rattle.exo_tree.specs.Tree.{Statement}
use Rattle.exo_tree.specs.Nodes.{nodes, nodes_of}

-- one statement more
pub one_more
    : (ss : List Statement) (k : ℕ) (a : Statement) (rest : List Statement)
    → drop k ss ≡ a ∷ rest
    → nodes_of (take (suc k) ss) ≡ nodes_of (take k ss) + nodes a
one_more [] zero a rest e = cc
one_more [] (suc k) a rest e = cc
one_more (b ∷ ss) zero a rest e = let same : b ≡ a = cc in omega (arith, ap nodes same)
one_more (b ∷ ss) (suc k) a rest e = omega (arith, one_more ss k a rest e)
