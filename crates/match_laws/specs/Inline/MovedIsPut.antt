-- The callee's expressions as the match has them are those of the inlined body.
use Rattle.std.specs.Prelude.{◌≡◌, ℕ, Bool, true, ◌&&◌, not, List, [], ◌∷◌, Some, IfSome, ⊤}
use Rattle.exo_tree.specs.Tree.{Control, Condition, Argument, ParamKind, ControlParam, TensorParam}
use Rattle.exo_tree.specs.Tree.{WindowParam, Param, Block, Procedure}
use Rattle.affine_forms.specs.Forms.{Reading}
use Rattle.inplace_laws.specs.Inline.{is_view}
use Rattle.match_laws.specs.Names.{Names}
use Rattle.match_laws.specs.Moved.{Moving, moved, moved_condition, agree, conditions_agree}
use Rattle.match_laws.specs.Pairs.{Pair, Numbers, Truths, Binders, Own, Access, Unlike}
use Rattle.match_laws.specs.Matched.{Arguments, matched, to, all_pairs}
use Rattle.match_laws.specs.MatchedFits.{given_names}
use Rattle.exo_meaning.specs.Orders.{Each}
use Rattle.match_laws.specs.Inline.AtOnce.{Put, puts, put_control, put_condition}

-- buffers are given for buffers, and for nothing else
abbrev pub is_of_kind : ParamKind → Argument → Bool
is_of_kind (ControlParam kind) a = not (is_view a)
is_of_kind (TensorParam cell dims memory) a = is_view a
is_of_kind (WindowParam cell dims memory) a = is_view a

abbrev pub are_of_kinds : List Param → List Argument → Bool
are_of_kinds [] args = true
are_of_kinds (p ∷ ps) [] = true
are_of_kinds (p ∷ ps) (a ∷ args) = is_of_kind p.kind a && are_of_kinds ps args

-- own binders of the callee have the ids of those of the block that correspond to them
abbrev pub HasBlockIds : Reading → Names → Block → Procedure → Type 0
HasBlockIds at theirs block q = (x y : ℕ) → to at theirs block q x ≡ Some y → x ≡ y

abbrev pub MovedIsPut : Type 0
MovedIsPut =
    (at : Reading) (theirs : Names) (block : Block) (q : Procedure) (args : List Argument)
    → HasBlockIds at theirs block q
    → are_of_kinds q.params args ≡ true
    → ((e : Control) → IfSome (moved (given_names at theirs block q args) e)
    (λ f. f ≡ put_control (puts q.params args) e))
    × ((c : Condition) → IfSome (moved_condition (given_names at theirs block q args) c)
    (λ r. r ≡ put_condition (puts q.params args) c))

-- what is known of a pair, with the arguments put in the callee's expressions
abbrev pub Agrees : Reading → Moving → Put → Pair → Type 0
Agrees at m put (Numbers p whole e g) =
    IfSome (moved m e) (λ f. agree at (put_control put e) g ≡ true)
Agrees at m put (Truths p whole c d) =
    IfSome (moved_condition m c) (λ r. conditions_agree at (put_condition put c) d ≡ true)
Agrees at m put (Binders x y) = ⊤
Agrees at m put (Own p x y) = x ≡ y
Agrees at m put (Access p x cs y ds) = ⊤
Agrees at m put (Unlike p) = ⊥

-- where a block is matched, each known expression of the inlined body agrees with the one that
-- stands against it, and names of its own are those of the block
abbrev pub MatchedAgrees : Type 0
MatchedAgrees =
    (at : Reading) (theirs : Names) (block : Block) (q : Procedure) (args : List Argument)
    → matched at theirs block q ≡ Arguments args
    → HasBlockIds at theirs block q
    → are_of_kinds q.params args ≡ true
    → Each (Agrees at (given_names at theirs block q args) (puts q.params args))
    (all_pairs at theirs block q)
