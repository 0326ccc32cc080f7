-- The names in scope at a place of a procedure: its parameters, the variables of the loops round
-- the place, and the binders of the statements that stand before it in its blocks. Which id a name
-- stands for does not hang on what sort of thing the name is, so each name is told as an index.
use Rattle.std.specs.Prelude.{ℕ, zero, suc, Bool, if◌then◌else◌, List, [], ◌∷◌, Option, Some, None}
use Rattle.std.specs.Prelude.{slice_get}
use Rattle.exo_tree.specs.Tree.{Index, Binder, Statement, For}
use Rattle.exo_tree.specs.Tree.{Alloc, View, Block, end, next, statements, Param, Procedure}
use Rattle.exo_tree.specs.Tree.{Program}
use Rattle.exo_tree.specs.Places.{Branch, Path}
use Rattle.exo_tree.specs.Branches.{branch_of}
use Rattle.exo_meaning.specs.Units.{ControlName, Scope, with_name}

-- one name more
abbrev pub naming : Binder → Scope → Scope
naming x scope = with_name scope x (ControlName Index)

-- the parameters, the last one innermost
abbrev pub naming_params : List Param → Scope → Scope
naming_params [] scope = scope
naming_params (p ∷ ps) scope = naming_params ps (naming p.binder scope)

-- behind a statement
abbrev pub naming_after : Statement → Scope → Scope
naming_after (Alloc x cell dims memory) scope = naming x scope
naming_after (View w x coords) scope = naming w scope
naming_after _ scope = scope

-- in the blocks of a statement
abbrev pub naming_inside : Statement → Scope → Scope
naming_inside (For i lo hi b) scope = naming i scope
naming_inside _ scope = scope

-- behind the first so many statements of a block
abbrev pub scope_behind : ℕ → Scope → Block → Scope
scope_behind zero scope b = scope
scope_behind (suc n) scope end = scope
scope_behind (suc n) scope (next a b) = scope_behind n (naming_after a scope) b

-- how many statements stand before the place: with `after` the one at the path too
abbrev pub before : Bool → ℕ → ℕ
before after n = if after then suc n else n

-- in a branch of a statement, where it has that branch
abbrev pub scope_inside : (Scope → Block → Scope) → Branch → Scope → Option Statement → Scope
scope_inside inner branch scope None = scope
scope_inside inner branch scope (Some a) =
    elim (branch_of branch a) [ None ↦ scope | Some b ↦ inner (naming_inside a scope) b ]

-- down a path from a block
abbrev pub scope_along : Bool → Path → Scope → Block → Scope
scope_along after [] scope b = scope
scope_along after (s ∷ []) scope b = scope_behind (before after s.index) scope b
scope_along after (s ∷ t ∷ path) scope b =
    scope_inside (scope_along after (t ∷ path)) t.branch (scope_behind s.index scope b)
    (slice_get (statements b) s.index)

-- at the empty path, of the parameters alone
abbrev pub scope_in : Procedure → Path → Bool → Scope
scope_in p path after = scope_along after path (naming_params p.params []) p.body

-- where there is no procedure of that number no name is in scope
abbrev pub scope_at : Program → ℕ → Path → Bool → Scope
scope_at program k path after =
    elim (slice_get program.procedures k) [ None ↦ [] | Some p ↦ scope_in p path after ]
