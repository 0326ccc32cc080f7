-- Counts of statements.
use Rattle.std.proofs.Common.{◌≡◌, ℕ, suc, nat_lt, Bool, true, false, not, ◌&&◌, List, [], ◌∷◌, length, ap, refl, arith}
use Rattle.std.proofs.lemmas.Bool.{lt-ltb}
use Rattle.std.proofs.lemmas.Bool.Decides.{nat_tests}
use Rattle.exo_tree.specs.Tree.{Statement, block, statements}
use Rattle.exo_meaning.specs.Units.{larger, is_empty}

-- the larger of two is below a number where both are
pub larger_below : (a b n : ℕ) → nat_lt (larger a b) n ≡ (nat_lt a n && nat_lt b n)
larger_below a b n = by (nat_lt a b) refl
  where
    by : (t : Bool) → nat_lt a b ≡ t → nat_lt (larger a b) n ≡ (nat_lt a n && nat_lt b n)
    by true e = grind (arith, nat_tests)
    by false e = grind (arith, nat_tests)

-- a block as a list
pub filled : (ss : List Statement) → nat_lt 0 (length ss) ≡ not (is_empty (block ss))
filled [] = refl
filled (s ∷ ss) = lt-ltb 0 (suc (length ss)) (omega arith)

pub many : (ss : List Statement) → length (statements (block ss)) ≡ length ss
many [] = refl
many (s ∷ ss) = ap suc (many ss)
