-- A matched callee with the ids of the block.
use Rattle.std.specs.Prelude.{◌≡◌, ℕ, suc, nat_lt, true, List, [], ◌∷◌, ◌++◌, map, Some}
use Rattle.std.specs.List.{list_all}
use Rattle.exo_tree.specs.Tree.{Argument, Param, Block, Procedure}
use Rattle.exo_tree.specs.Places.{Path, Opened, opened}
use Rattle.exo_tree.specs.Renaming.{binders}
use Rattle.exo_meaning.specs.Renaming.{Renaming}
use Rattle.exo_meaning.specs.Units.{are_distinct, bound_ids}
use Rattle.affine_forms.specs.Forms.{Reading}
use Rattle.match_laws.specs.Names.{Names}
use Rattle.match_laws.specs.Matched.{Arguments, matched, all_pairs}
use Rattle.match_laws.specs.RenamedCallee.{re_procedure}
use Rattle.match_laws.specs.Inline.MatchLaw.{have_one_id}

-- one number for each parameter, from n on
abbrev pub param_ids : ℕ → List Param → List ℕ
param_ids n [] = []
param_ids n (p ∷ ps) = n ∷ param_ids (suc n) ps

-- the callee's binders get the ids of the block's, in order, and its parameters those from base on
pub record TakesBlockIds (at : Reading) (theirs : Names) (block : Block) (q : Procedure)
    (args : List Argument) (base : ℕ) (r : Renaming) : Type 0 where
  pub params : map (λ p. r.to p.binder.id) q.params ≡ param_ids base q.params
  pub body : map r.to (binders q.body) ≡ binders block
  pub bound : bound_ids (re_procedure r q) ≡ param_ids base q.params ++ binders block
  pub distinct : are_distinct (bound_ids (re_procedure r q)) ≡ true
  -- so it gives the same match, in which binders that correspond have one id
  pub found : matched at theirs block (re_procedure r q) ≡ Arguments args
  pub binders_are_one : have_one_id (all_pairs at theirs block (re_procedure r q)) ≡ true

abbrev pub BlockIds : Type 0
BlockIds =
    (at : Reading) (theirs : Names) (block : Block) (q : Procedure) (args : List Argument)
    (base : ℕ)
    → matched at theirs block q ≡ Arguments args
    → are_distinct (bound_ids q) ≡ true
    → are_distinct (binders block) ≡ true
    → list_all (λ x. nat_lt x base) (binders block) ≡ true
    → (r : Renaming) × TakesBlockIds at theirs block q args base r

-- the premises of the block hold where they hold of its procedure
abbrev pub PieceIds : Type 0
PieceIds =
    (p : Procedure) (n : ℕ) (path : Path) (o : Opened) (base : ℕ)
    → opened n path p.body ≡ Some o
    → are_distinct (bound_ids p) ≡ true
    → list_all (λ x. nat_lt x base) (bound_ids p) ≡ true
    → (are_distinct (binders o.piece) ≡ true)
    × (list_all (λ x. nat_lt x base) (binders o.piece) ≡ true)
