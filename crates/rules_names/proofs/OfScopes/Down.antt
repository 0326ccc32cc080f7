-- Down a path, branch by branch.
use Rattle.std.proofs.Common.{◌≡◌, ℕ, zero, suc, Bool, true, List, [], ◌∷◌, slice_get, Option, Some, None, refl, sym, ap, ◌∙◌}
use Rattle.exo_tree.specs.Tree.{Statement, Assign, Reduce, Config, Pass, If, For, Alloc, View, Call, Block, block, statements}
use Rattle.exo_tree.specs.Places.{Branch, Main, Else, Step, Path}
use Rattle.exo_tree.specs.Branches.{branch_of}
use Rattle.exo_meaning.specs.Units.{Scope, is_new}
use Rattle.rules_names.specs.Scopes.PlaceScope.{naming, naming_after, naming_inside, scope_behind}
use Rattle.rules_names.specs.Scopes.PlaceScope.{scope_inside, scope_along}
use Rattle.rules_names.specs.Scopes.NewNames.{binds_new, step_binds_new}
use Rattle.rules_names.proofs.OfScopes.Fresh.{both}

statements_block : (ss : List Statement) → statements (block ss) ≡ ss
statements_block [] = refl
statements_block (s ∷ ss) = ap (λ ts. s ∷ ts) (statements_block ss)

some_is : {A : Type 0} (a b : A) → Some a ≡ Some b → a ≡ b
some_is a b h = cc

-- a path of more than one step
pub down : (after : Bool) (ss : List Statement) (path rest : Path) (s t : Step) (scope here : Scope) (o : Option Statement) → path ≡ s ∷ rest → slice_get rest 0 ≡ Some t → here ≡ scope_behind s.index scope (block ss) → slice_get ss s.index ≡ o
    → scope_inside (scope_along after rest) t.branch here o ≡ scope_along after path scope (block ss)
down after ss path [] s t scope here o e h behind found = cc
down after ss path (u ∷ more) s t scope here o e h behind found =
    (λ i. scope_inside (scope_along after (u ∷ more)) (sym (some_is u t h) i).branch (behind i) (sym found i))
    ∙ ap (λ ts. scope_inside (scope_along after (u ∷ more)) u.branch (scope_behind s.index scope (block ss)) (slice_get ts s.index)) (sym (statements_block ss))
    ∙ ap (λ p. scope_along after p scope (block ss)) (sym e)

pub no_branch : (inner : Scope → Block → Scope) (branch : Branch) (here : Scope) (a : Statement) → branch_of branch a ≡ None → scope_inside inner branch here (Some a) ≡ here
no_branch inner branch here a h = ap (λ o. elim o [ None ↦ here | Some b ↦ inner (naming_inside a here) b ]) h

pub in_branch : (inner : Scope → Block → Scope) (branch : Branch) (here : Scope) (a : Statement) (c : Block) → branch_of branch a ≡ Some c → scope_inside inner branch here (Some a) ≡ inner (naming_inside a here) c
in_branch inner branch here a c h = ap (λ o. elim o [ None ↦ here | Some b ↦ inner (naming_inside a here) b ]) h

-- a statement of a block that binds new names does so at its place
pub new_at : (k : ℕ) (ss : List Statement) (scope : Scope) (a : Statement) → slice_get ss k ≡ Some a → binds_new scope (block ss) ≡ true → step_binds_new (scope_behind k scope (block ss)) a ≡ true
new_at zero [] scope a h n = cc
new_at zero (s ∷ ss) scope a h n = ap (step_binds_new scope) (sym (some_is s a h)) ∙ (both (step_binds_new scope s) (binds_new (naming_after s scope) (block ss)) n).0
new_at (suc k) [] scope a h n = cc
new_at (suc k) (s ∷ ss) scope a h n = new_at k ss (naming_after s scope) a h (both (step_binds_new scope s) (binds_new (naming_after s scope) (block ss)) n).1

-- and so do its blocks
pub new_inside : (branch : Branch) (a : Statement) (c : Block) (here : Scope) → branch_of branch a ≡ Some c → step_binds_new here a ≡ true → binds_new (naming_inside a here) c ≡ true
new_inside Main (For i lo hi b) c here h n = ap (binds_new (naming i here)) (sym (some_is b c h)) ∙ (both (is_new here i) (binds_new (naming i here) b) n).1
new_inside Else (For i lo hi b) c here h n = cc
new_inside Main (If t a b) c here h n = ap (binds_new here) (sym (some_is a c h)) ∙ (both (binds_new here a) (binds_new here b) n).0
new_inside Else (If t a b) c here h n = ap (binds_new here) (sym (some_is b c h)) ∙ (both (binds_new here a) (binds_new here b) n).1
new_inside Main (Assign x is e) c here h n = cc
new_inside Else (Assign x is e) c here h n = cc
new_inside Main (Reduce x is e) c here h n = cc
new_inside Else (Reduce x is e) c here h n = cc
new_inside Main (Config f e) c here h n = cc
new_inside Else (Config f e) c here h n = cc
new_inside Main Pass c here h n = cc
new_inside Else Pass c here h n = cc
new_inside Main (Alloc x cell dims memory) c here h n = cc
new_inside Else (Alloc x cell dims memory) c here h n = cc
new_inside Main (View w x coords) c here h n = cc
new_inside Else (View w x coords) c here h n = cc
new_inside Main (Call k args) c here h n = cc
new_inside Else (Call k args) c here h n = cc
