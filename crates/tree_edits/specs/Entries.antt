-- How many entries the blocks on the way to a statement have, with the other branch of each
-- condition on it.
use Rattle.std.specs.Prelude.{ℕ, ◌+◌, List, [], ◌∷◌, length, slice_get, Option, Some, None}
use Rattle.exo_tree.specs.Tree.{Statement, If, Block, statements}
use Rattle.exo_tree.specs.Places.{Branch, Main, Else, Path}
use Rattle.exo_tree.specs.Branches.{branch_of}

-- the statements of the branch of a condition that the way does not go into
abbrev pub beside : Branch → Statement → ℕ
beside Main (If c a b) = length (statements b)
beside Else (If c a b) = length (statements a)
beside which s = 0

abbrev pub of_inner : (List Statement → ℕ) → Option Block → ℕ
of_inner f None = 0
of_inner f (Some b) = f (statements b)

abbrev pub of_statement : (List Statement → ℕ) → Branch → Option Statement → ℕ
of_statement f which None = 0
of_statement f which (Some a) = beside which a + of_inner f (branch_of which a)

abbrev pub entries_in : Path → List Statement → ℕ
entries_in [] ss = 0
entries_in (s ∷ []) ss = length ss
entries_in (s ∷ t ∷ path) ss =
    length ss + of_statement (entries_in (t ∷ path)) t.branch (slice_get ss s.index)
