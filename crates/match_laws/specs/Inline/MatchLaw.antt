-- A matched block does what the callee's body does, with the arguments of the match.
use Rattle.std.specs.Prelude.{◌≡◌, ℕ, ◌==◌, Bool, true, false, ◌&&◌, if◌then◌else◌, List, [], ◌∷◌}
use Rattle.std.specs.Prelude.{length, Option, Some, None}
use Rattle.exo_tree.specs.Tree.{Control, Coord, At, Span, Argument, ParamKind, ControlParam}
use Rattle.exo_tree.specs.Tree.{TensorParam, WindowParam, Param, Block, Procedure}
use Rattle.exo_meaning.specs.Inputs.{is_buffer_of}
use Rattle.exo_meaning.specs.State.{State}
use Rattle.exo_meaning.specs.Run.{World, run}
use Rattle.exo_meaning.specs.Unseen.{in_arguments as arguments_mention}
use Rattle.affine_forms.specs.Forms.{Reading, is_affine}
use Rattle.inplace_laws.specs.Along.{SameAlong}
use Rattle.inplace_laws.specs.Inline.{inlined}
use Rattle.match_laws.specs.Names.{Names, names_of, extents_of}
use Rattle.match_laws.specs.Pairs.{Pair, Numbers, Truths, Binders, Own, Access, Unlike}
use Rattle.match_laws.specs.Moved.{Moving, moved, moved_condition}
use Rattle.match_laws.specs.Fitting.{coords_moved}
use Rattle.match_laws.specs.Matched.{Arguments, matched, params, all_pairs, walk, by_walk}
use Rattle.match_laws.specs.Matched.{argument_in}
use Rattle.match_laws.specs.MatchedFits.{given_names}
use Rattle.match_laws.specs.Alike.{nameless}
use Rattle.match_laws.specs.Inline.AtOnce.{puts, put_block}
use Rattle.match_laws.specs.Inline.Known.{strides_of, AreOfKnown, Sees, ReadAlong}
use Rattle.match_laws.specs.Inline.MovedIsPut.{are_of_kinds}
use Rattle.match_laws.specs.Inline.Meets.{calls_alike}

abbrev pub is_known : {A : Type 0} → Option A → Bool
is_known None = false
is_known (Some a) = true

-- the dimensions of the buffer parameter of that name
abbrev pub dims_if : ParamKind → Bool → Option (List Control) → Option (List Control)
dims_if (ControlParam kind) this rest = rest
dims_if (TensorParam cell dims memory) this rest = if this then Some dims else rest
dims_if (WindowParam cell dims memory) this rest = if this then Some dims else rest

abbrev pub dims_of : List Param → ℕ → Option (List Control)
dims_of [] x = None
dims_of (p ∷ ps) x = dims_if p.kind (x == p.binder.id) (dims_of ps x)

abbrev pub has_length : ℕ → Option (List Control) → Bool
has_length n None = false
has_length n (Some dims) = length dims == n

-- affine, with no strides but those of known names
module _ (known : ℕ → Bool) where
  abbrev pub are_of_known : List Coord → Bool
  are_of_known [] = true
  are_of_known (At a ∷ cs) = is_affine (strides_of known) a && are_of_known cs
  are_of_known (Span a b ∷ cs) =
      is_affine (strides_of known) a && (is_affine (strides_of known) b && are_of_known cs)

  abbrev pub are_moved_of_known : Option (List Coord) → Bool
  are_moved_of_known None = false
  are_moved_of_known (Some cs) = are_of_known cs

-- ---- what the rules of a callee give

-- binders that correspond have one id
abbrev pub has_one_id : Pair → Bool
has_one_id (Binders x y) = x == y
has_one_id a = true

abbrev pub have_one_id : List Pair → Bool
have_one_id [] = true
have_one_id (a ∷ pairs) = has_one_id a && have_one_id pairs

-- by: the callee's expressions in the block's names, as the walk determines them; m: the same with
-- all arguments; ps: the callee's parameters. All that is read of them is known, and an access of a
-- parameter has as many coordinates as the parameter has dimensions, none of them with a stride but
-- of known names
module _ (known : ℕ → Bool) (by m : Moving) (ps : List Param) where
  abbrev pub stands : Pair → Bool
  stands (Numbers p whole e g) = is_known (moved m e)
  stands (Truths p whole c d) = is_known (moved_condition m c)
  stands (Binders x y) = true
  stands (Own p x y) = true
  stands (Access p x cs y ds) =
      has_length (length cs) (dims_of ps x)
      && (are_moved_of_known known (coords_moved by cs) && are_of_known known ds)
  stands (Unlike p) = true

  abbrev pub all_stand : List Pair → Bool
  all_stand [] = true
  all_stand (a ∷ pairs) = stands a && all_stand pairs

abbrev pub no_buffer : ParamKind → Option Argument → Bool
no_buffer (ControlParam kind) o = true
no_buffer (TensorParam cell dims memory) None = true
no_buffer (TensorParam cell dims memory) (Some a) = false
no_buffer (WindowParam cell dims memory) None = true
no_buffer (WindowParam cell dims memory) (Some a) = false

-- the walk takes no number for a buffer parameter
abbrev pub numbers_are_numbers : (ℕ → Option Argument) → List Param → Bool
numbers_are_numbers found [] = true
numbers_are_numbers found (p ∷ ps) =
    no_buffer p.kind (found p.binder.id) && numbers_are_numbers found ps

-- q: the callee, whose binders have the ids of the block's; known: names that stand for buffers
-- where the block begins
pub record MayMatch (at : Reading) (theirs : Names) (block : Block) (q : Procedure)
    (args : List Argument) (known : ℕ → Bool) : Type 0 where
  -- buffers are given for buffers, and no argument mentions a parameter
  pub kinds : are_of_kinds q.params args ≡ true
  pub apart : arguments_mention (λ x. is_buffer_of x q.params) args ≡ false
  pub binders : have_one_id (all_pairs at theirs block q) ≡ true
  pub numbers :
      numbers_are_numbers (argument_in (params at theirs block q) (walk at theirs block q))
      q.params ≡ true
  -- each name of the body is a parameter or bound before; accesses of parameters have their rank
  pub stand :
      all_stand known (by_walk at theirs block q) (given_names at theirs block q args) q.params
      (all_pairs at theirs block q) ≡ true
  -- with the arguments, the body reads the strides of known names alone
  pub strides : AreOfKnown known (put_block (puts q.params args) q.body)
  -- the table of the callee's names has the dimensions of its parameters
  pub named : (x : ℕ) (dims : List Control)
      → dims_of q.params x ≡ Some dims
      → extents_of (names_of q x) ≡ dims
  -- a window that the block gives in a call stands against no name for which a name stands
  pub calls : calls_alike (puts q.params args) q.body block ≡ true

-- where what is read in the block has its numbers along a run
abbrev pub MatchLaw : Type 0
MatchLaw =
    (world : World) (at : Reading) (theirs : Names) (block : Block) (q : Procedure)
    (args : List Argument) (known : ℕ → Bool) (s : State)
    → matched at theirs block q ≡ Arguments args
    → MayMatch at theirs block q args known
    → Sees known s.scene
    → ReadAlong world at theirs (nameless block) s
    → SameAlong world (nameless block) (nameless (inlined q.params args q.body)) s

-- so both run alike
abbrev pub MatchRuns : Type 0
MatchRuns =
    (world : World) (at : Reading) (theirs : Names) (block : Block) (q : Procedure)
    (args : List Argument) (known : ℕ → Bool) (s : State)
    → matched at theirs block q ≡ Arguments args
    → MayMatch at theirs block q args known
    → Sees known s.scene
    → ReadAlong world at theirs (nameless block) s
    → run world block s ≡ run world (inlined q.params args q.body) s
