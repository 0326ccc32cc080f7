-- A body without copies keeps the names of its binders.
use Rattle.std.specs.Prelude.{◌≡◌, ℕ, nat_lt, true}
use Rattle.std.specs.List.{list_all}
use Rattle.exo_tree.specs.Tree.{Block, Procedure}
use Rattle.exo_tree.specs.Renaming.{binders}
use Rattle.exo_meaning.specs.Units.{are_distinct, bound_ids}
use Rattle.tree_edits.specs.Made.Names.{named_copies}

-- where no binder has an id from `copies` on, and no two have one id, no name changes
abbrev pub NoCopies : Type 0
NoCopies =
    (p : Procedure) (copies : ℕ) (b : Block)
    → list_all (λ x. nat_lt x copies) (binders b) ≡ true
    → are_distinct (binders b) ≡ true
    → named_copies p copies b ≡ b

-- so it is where the named body keeps the rules
abbrev pub BodiesWithoutCopies : Type 0
BodiesWithoutCopies =
    (p q : Procedure) (copies : ℕ) (b : Block)
    → list_all (λ x. nat_lt x copies) (binders b) ≡ true
    → q.body ≡ named_copies p copies b
    → are_distinct (bound_ids q) ≡ true
    → q.body ≡ b
