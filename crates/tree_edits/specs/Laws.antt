-- What is counted on one way: there are three loops of a hundred statements each, and a statement
-- of the second loop is replaced.
use Rattle.std.specs.Prelude.{◌≡◌, ℕ, zero, suc, List, [], ◌∷◌}
use Rattle.exo_tree.specs.Tree.{Statement, Pass, For, Var, block}
use Rattle.exo_tree.specs.Places.{Main, Path}
use Rattle.tree_edits.specs.Entries.{entries_in}

abbrev pub passes : ℕ → List Statement
passes zero = []
passes (suc n) = Pass ∷ passes n

abbrev pub loop : Statement
loop = For (record { id = 0; name = [] }) (Var 0) (Var 0) (block (passes 100))

abbrev pub one_point_fifty : Path
one_point_fifty =
    record { branch = Main; index = 1 } ∷ record { branch = Main; index = 50 } ∷ []

-- 3 entries of the body and 100 of the loop
abbrev pub EntriesOfAWay : Type 0
EntriesOfAWay = entries_in one_point_fifty (loop ∷ loop ∷ loop ∷ []) ≡ 103
