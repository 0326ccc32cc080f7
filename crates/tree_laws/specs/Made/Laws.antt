-- What names of copies keep.
use Rattle.std.specs.Prelude.{◌≡◌, ℕ}
use Rattle.exo_tree.specs.Tree.{Block, Procedure}
use Rattle.exo_tree.specs.Renaming.{binders}
use Rattle.exo_meaning.specs.Run.{World, run}
use Rattle.place_laws.specs.Scope.Bare.{bare}
use Rattle.tree_edits.specs.Made.Names.{named_copies}

-- nothing but the names of binders changes
abbrev pub NamesAlone : Type 0
NamesAlone = (p : Procedure) (copies : ℕ) (b : Block) → bare (named_copies p copies b) ≡ bare b

-- so the ids of the binders stay
abbrev pub IdsStay : Type 0
IdsStay = (p : Procedure) (copies : ℕ) (b : Block) → binders (named_copies p copies b) ≡ binders b

-- and the block does the same
abbrev pub NamedCopiesRunAlike : Type 0
NamedCopiesRunAlike =
    (world : World) (p : Procedure) (copies : ℕ) (b : Block)
    → run world (named_copies p copies b) ≡ run world b
