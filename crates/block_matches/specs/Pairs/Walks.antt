-- What walks are told by.
use Rattle.std.specs.Prelude.{ℕ, Bool, true, false, ◌++◌, if◌then◌else◌}
use Rattle.exo_tree.specs.PlainProcedure.{procedure}
use Rattle.exo_tree.specs.Tree.{Statement, If, For, Alloc, View}
use Rattle.exo_tree.specs.Places.{Path}
use Rattle.inplace_laws.specs.Inline.{is_param}
use Rattle.match_laws.specs.Names.{Names}
use Rattle.match_laws.specs.Pairs.{same_cells}
use Rattle.block_matches.specs.Pairs.Held.{ids_in, names_in}
use Rattle.block_matches.specs.declared.pairs.data.Meeting.{Meeting}
use Rattle.block_matches.specs.declared.pairs.data.Meeting.TheVariants.{Unlike, Param, Own}
use Rattle.block_matches.specs.declared.pairs.walk.PairWalk.{PairWalk}

-- of the names of a walk
abbrev pub in_walk : {A : Type 0} → ((ℕ → Bool) → (ℕ → Bool) → Names → Names → A) → PairWalk → A
in_walk f w =
    f (is_param (procedure w.callee.now)) (ids_in w.bound.now) (names_in w.ours.now)
    (names_in w.theirs.now)

-- of a name of the callee and a name of the block
abbrev pub meeting : (ℕ → Bool) → (ℕ → Bool) → Names → Names → ℕ → ℕ → Meeting
meeting params bound ours theirs x y =
    if same_cells (ours x) (theirs y)
    then (if params x then (if bound y then Unlike else Param) else Own)
    else Unlike

-- what leads on from the statement at a path
abbrev pub below : Path → Path → Path
below path rest = path ++ rest

-- both are conditions, loops, allocations or views
abbrev pub both_bind : Statement → Statement → Bool
both_bind (If c a b) (If r d e) = true
both_bind (For i lo hi b) (For j l h d) = true
both_bind (Alloc x cell dims memory) (Alloc y type extents store) = true
both_bind (View w x cs) (View v y ds) = true
both_bind a c = false
