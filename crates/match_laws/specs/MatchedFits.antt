-- What stands where a block is matched with a callee's body.
use Rattle.std.specs.Prelude.{◌≡◌, ℕ, true, List, [], ◌∷◌, Option, Some, None, IfSome, Ok, ⊤}
use Rattle.exo_tree.specs.Tree.{Argument, Param, Block, Procedure}
use Rattle.exo_tree.specs.Passed.{passed_for}
use Rattle.exo_meaning.specs.Orders.{Each}
use Rattle.affine_forms.specs.Forms.{Reading}
use Rattle.match_laws.specs.Names.{Names}
use Rattle.match_laws.specs.Pairs.{Pair, Numbers, Truths, Binders, Own, Access, Unlike}
use Rattle.match_laws.specs.Moved.{Moving, moved, moved_condition, agree, conditions_agree}
use Rattle.match_laws.specs.Matched.{Arguments, matched, first_undetermined, params, all_pairs}
use Rattle.match_laws.specs.Matched.{own_pairs, to, walk, moving, argument_for}

-- expressions agree, where the callee's one is known in the block's names; names of the callee's
-- own correspond
abbrev pub Fits : Reading → (ℕ → Option ℕ) → Moving → Pair → Type 0
Fits at to m (Numbers p whole e g) = IfSome (moved m e) (λ f. agree at f g ≡ true)
Fits at to m (Truths p whole c d) =
    IfSome (moved_condition m c) (λ r. conditions_agree at r d ≡ true)
Fits at to m (Binders x y) = ⊤
Fits at to m (Own p x y) = to x ≡ Some y
Fits at to m (Access p x cs y ds) = ⊤
Fits at to m (Unlike p) = ⊥

module _ (at : Reading) (theirs : Names) (block : Block) (q : Procedure) where
  -- each parameter's argument is the one that its places give
  abbrev pub AreGiven : List Param → List Argument → Type 0
  AreGiven [] [] = ⊤
  AreGiven [] (a ∷ args) = ⊥
  AreGiven (p ∷ ps) [] = ⊥
  AreGiven (p ∷ ps) (a ∷ args) =
      (argument_for at theirs block q p.binder.id p.kind ≡ Ok a) × AreGiven ps args

  -- the callee's expressions with the arguments
  abbrev pub given_names : List Argument → Moving
  given_names args =
      moving (params at theirs block q) (to at theirs block q)
      (passed_for q.params args)

  pub record IsMatch (args : List Argument) : Type 0 where
    pub determined :
        first_undetermined (params at theirs block q) (own_pairs at theirs block q) q.params
        ≡ None
    -- the walk ends at no difference
    pub walked : walk at theirs block q ≡ all_pairs at theirs block q
    pub fits :
        Each (Fits at (to at theirs block q) (given_names args)) (all_pairs at theirs block q)
    pub given : AreGiven q.params args

abbrev pub MatchedFits : Type 0
MatchedFits =
    (at : Reading) (theirs : Names) (block : Block) (q : Procedure) (args : List Argument)
    → matched at theirs block q ≡ Arguments args
    → IsMatch at theirs block q args
