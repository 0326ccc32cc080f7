-- With its arguments, the body of a callee that keeps the rules reads strides of known names alone.
use Rattle.std.proofs.Common.{◌≡◌, ℕ, ◌==◌, Bool, true, ◌||◌, List, [], ◌∷◌, Option, Some, None}
use Rattle.std.proofs.Common.{IfSome, refl, sym, subst, true≢false, eq-eqb, ap₂, ◌&&◌, not}
use Rattle.exo_tree.specs.Tree.{Kind, Index, Control, Add, Condition, True, False, Flag, FieldFlag}
use Rattle.exo_tree.specs.Tree.{Lt, Le, Gt, Ge, Eq, And, Or, Datum, Const, Read, Negated, Relu, Plus}
use Rattle.exo_tree.specs.Tree.{Minus, Times, Select, Coord, At, Span, Argument, ControlArg}
use Rattle.exo_tree.specs.Tree.{ConditionArg, Whole, Window, Param, Statement, Assign, Reduce, Config}
use Rattle.exo_tree.specs.Tree.{Pass, If, For, Alloc, View, Call, Block, end, next}
use Rattle.exo_tree.specs.Renaming.{re_control, re_controls, re_condition, re_datum, re_coords}
use Rattle.exo_tree.specs.Renaming.{re_argument, re_arguments, re_statement, re_block}
use Rattle.exo_meaning.specs.Calls.{Callee}
use Rattle.exo_meaning.specs.Run.{roots_after}
use Rattle.exo_meaning.specs.Units.{Scope, ControlName, Reads, plainly, with_fields, with_name, sort_in}
use Rattle.exo_meaning.specs.Units.{has_dimension, is_control, is_condition, is_new, is_empty, is_short}
use Rattle.exo_meaning.specs.Units.{is_block, is_statement, scope_after}
use Rattle.meaning_laws.specs.Scoped.{has_binder, step_has_binder}
use Rattle.meaning_laws.specs.Sound.{binds}
use Rattle.meaning_laws.proofs.Facts.{or_left, or_right}
use Rattle.affine_forms.proofs.Values.{and_parts}
use Rattle.check_laws.proofs.OfFacts.Affine.{more_affine}
use Rattle.inplace_laws.specs.Windows.{shifted, joined_coords, coords_of}
use Rattle.match_laws.specs.Simplify.SameControls.{OfControls, OfCondition, OfDatum, OfCoords}
use Rattle.match_laws.specs.Simplify.SameControls.{OfArgument, OfArguments, OfStatement}
use Rattle.match_laws.proofs.OfSimplify.SimplifiedBlocks.{argument_by, condition_by}
use Rattle.match_laws.specs.Moved.{Moving, moved}
use Rattle.match_laws.specs.Inline.AtOnce.{Put, put_control, put_controls, put_condition, put_index}
use Rattle.match_laws.specs.Inline.AtOnce.{put_datum, put_coords, put_window, put_argument}
use Rattle.match_laws.specs.Inline.AtOnce.{put_arguments, put_statement, put_block, coords_for}
use Rattle.match_laws.specs.Inline.Known.{strides_of, IsOfKnown, known_behind, AreOfKnown}
use Rattle.match_laws.specs.Inline.Known.{AreOfKnownWithin}
use Rattle.call_laws.proofs.Each.{statement_so}
use Rattle.call_laws.proofs.OfReplace.Moves.{moves, moves_more, IsMore, grows, control_moves}
use Rattle.call_laws.proofs.OfReplace.Stands.{Stand, Owns, with_loop, stand_more, stand_after}

-- ---- what is put in the place of names

-- Q: of the expressions behind
module _ (Q : Control → Type 0) (add : (a b : Control) → Q a → Q b → Q (Add a b)) (to : ℕ → ℕ)
    (put : Put) (names : (x : ℕ) → OfArgument Q (put.name x))
    (flags : (x : ℕ) → OfCondition Q (put.flag x)) where
  abbrev P : Control → Type 0
  P e = Q (put_control put (re_control to e))

  coords_in : (a : Argument) → OfArgument Q a → OfCoords Q (coords_of a)
  coords_in (ControlArg e) h = tt
  coords_in (ConditionArg c) h = tt
  coords_in (Whole x) h = tt
  coords_in (Window x cs) h = h

  coords_named : (x : ℕ) → OfCoords Q (coords_for put x)
  coords_named x = coords_in (put.name x) (names x)

  shifted_so : (cs : List Coord) (is : List Control) → OfCoords Q cs → OfControls Q is
      → OfControls Q (shifted cs is)
  shifted_so [] is h k = k
  shifted_so (At a ∷ cs) is h k = (h.0, shifted_so cs is h.1 k)
  shifted_so (Span a b ∷ cs) [] h k = tt
  shifted_so (Span a b ∷ cs) (i ∷ is) h k = (add a i h.0 k.0, shifted_so cs is h.2 k.1)

  joined_so : (cs ds : List Coord) → OfCoords Q cs → OfCoords Q ds → OfCoords Q (joined_coords cs ds)
  joined_so [] ds h k = k
  joined_so (At a ∷ cs) ds h k = (h.0, joined_so cs ds h.1 k)
  joined_so (Span a b ∷ cs) [] h k = tt
  joined_so (Span a b ∷ cs) (At c ∷ ds) h k = (add a c h.0 k.0, joined_so cs ds h.2 k.1)
  joined_so (Span a b ∷ cs) (Span c d ∷ ds) h k =
      (add a c h.0 k.0, add a d h.0 k.1, joined_so cs ds h.2 k.2)

  controls_put : (es : List Control) → OfControls P es → OfControls Q (put_controls put (re_controls to es))
  controls_put [] h = tt
  controls_put (e ∷ es) h = (h.0, controls_put es h.1)

  index_put : (x : ℕ) (es : List Control) → OfControls P es
      → OfControls Q (put_index put x (re_controls to es))
  index_put x es h =
      shifted_so (coords_for put x) (put_controls put (re_controls to es)) (coords_named x)
      (controls_put es h)

  condition_put : (c : Condition) → OfCondition P c → OfCondition Q (put_condition put (re_condition to c))
  condition_put True h = tt
  condition_put False h = tt
  condition_put (Flag x) h = flags (to x)
  condition_put (FieldFlag f) h = tt
  condition_put (Lt a b) h = h
  condition_put (Le a b) h = h
  condition_put (Gt a b) h = h
  condition_put (Ge a b) h = h
  condition_put (Eq a b) h = h
  condition_put (And c d) h = (condition_put c h.0, condition_put d h.1)
  condition_put (Or c d) h = (condition_put c h.0, condition_put d h.1)

  datum_put : (e : Datum) → OfDatum P e → OfDatum Q (put_datum put (re_datum to e))
  datum_put (Const n) h = tt
  datum_put (Read x is) h = index_put (to x) is h
  datum_put (Negated a) h = datum_put a h
  datum_put (Relu a) h = datum_put a h
  datum_put (Plus a b) h = (datum_put a h.0, datum_put b h.1)
  datum_put (Minus a b) h = (datum_put a h.0, datum_put b h.1)
  datum_put (Times a b) h = (datum_put a h.0, datum_put b h.1)
  datum_put (Select a b c d) h = (datum_put a h.0, datum_put b h.1, datum_put c h.2, datum_put d h.3)

  coords_put : (cs : List Coord) → OfCoords P cs → OfCoords Q (put_coords put (re_coords to cs))
  coords_put [] h = tt
  coords_put (At a ∷ cs) h = (h.0, coords_put cs h.1)
  coords_put (Span a b ∷ cs) h = (h.0, h.1, coords_put cs h.2)

  window_put : (x : ℕ) (cs : List Coord) → OfCoords P cs
      → OfCoords Q (put_window put x (re_coords to cs))
  window_put x cs h =
      joined_so (coords_for put x) (put_coords put (re_coords to cs)) (coords_named x) (coords_put cs h)

  argument_put : (a : Argument) → OfArgument P a → OfArgument Q (put_argument put (re_argument to a))
  argument_put (ControlArg e) h = h
  argument_put (ConditionArg c) h = condition_put c h
  argument_put (Whole x) h = names (to x)
  argument_put (Window x cs) h = window_put (to x) cs h

  arguments_put : (args : List Argument) → OfArguments P args
      → OfArguments Q (put_arguments put (re_arguments to args))
  arguments_put [] h = tt
  arguments_put (a ∷ rest) h = (argument_put a h.0, arguments_put rest h.1)

  pub statement_put : (a : Statement) → OfStatement P a
      → OfStatement Q (put_statement put (re_statement to a))
  statement_put (Assign x is e) h = (index_put (to x) is h.0, datum_put e h.1)
  statement_put (Reduce x is e) h = (index_put (to x) is h.0, datum_put e h.1)
  statement_put (Config f a) h = argument_put a h
  statement_put Pass h = tt
  statement_put (If c a b) h = condition_put c h
  statement_put (For i lo hi b) h = h
  statement_put (Alloc x cell dims memory) h = controls_put dims h
  statement_put (View w x cs) h = window_put (to x) cs h
  statement_put (Call k args) h = arguments_put args h

-- arguments bind nothing
put_binds : (put : Put) (a : Statement) (x : ℕ) → binds a x ≡ binds (put_statement put a) x
put_binds put (Assign y is e) x = refl
put_binds put (Reduce y is e) x = refl
put_binds put (Config f a) x = refl
put_binds put Pass x = refl
put_binds put (If c a b) x = refl
put_binds put (For i lo hi b) x = refl
put_binds put (Alloc y cell dims memory) x = refl
put_binds put (View w y cs) x = refl
put_binds put (Call k args) x = refl

-- ---- block by block

module _ (fields : ℕ → Option Kind) (to : ℕ → ℕ) (known : ℕ → Bool) (m by : Moving)
    (ps : List Param) (params : ℕ → Bool) (put : Put)
    (is_put : (e : Control) → IfSome (moved m e) (λ f. f ≡ put_control put e))
    (names : (x : ℕ) → OfArgument (IsOfKnown known) (put.name x))
    (flags : (x : ℕ) → OfCondition (IsOfKnown known) (put.flag x)) where
  abbrev StandIn : Scope → (ℕ → Bool) → Type 0
  StandIn = Stand to known m by ps params

  -- what is moved is what is put
  moved_is : (grown : ℕ → Bool) (e : Control) → moves grown (moved m e) ≡ true
      → IsOfKnown grown (put_control put e)
  moved_is grown e h = go (moved m e) (is_put e) h
    where
      go : (o : Option Control) → IfSome o (λ f. f ≡ put_control put e) → moves grown o ≡ true
          → IsOfKnown grown (put_control put e)
      go None i k = absurd (true≢false (sym k))
      go (Some f) i k = subst (IsOfKnown grown) i k

  expression_so : (scope : Scope) (grown : ℕ → Bool) → StandIn scope grown → (reads : Reads)
      → (e : Control) → is_control fields reads scope e ≡ true
      → IsOfKnown grown (put_control put (re_control to e))
  expression_so scope grown st reads e h =
      moved_is grown (re_control to e)
      (control_moves fields to m grown reads scope
      (λ x k. moves_more known grown st.more (m.variable (to x)) (st.numbers x k))
      (λ x k i. st.strides x k (and_parts reads.strides (has_dimension k (sort_in scope x)) i).1) e h)

  grown_names : (grown : ℕ → Bool) → IsMore known grown → (x : ℕ)
      → OfArgument (IsOfKnown grown) (put.name x)
  grown_names grown more x =
      argument_by (IsOfKnown known) (IsOfKnown grown)
      (λ e h. more_affine (strides_of known) (strides_of grown) (grows known grown more) e h)
      (put.name x) (names x)

  grown_flags : (grown : ℕ → Bool) → IsMore known grown → (x : ℕ)
      → OfCondition (IsOfKnown grown) (put.flag x)
  grown_flags grown more x =
      condition_by (IsOfKnown known) (IsOfKnown grown)
      (λ e h. more_affine (strides_of known) (strides_of grown) (grows known grown more) e h)
      (put.flag x) (flags x)

  module _ (memories : ℕ) (callees : ℕ → Option Callee) where
    abbrev Owning : (ℕ → Bool) → Type 0
    Owning = Owns to known m by ps params

    statement_of_known : (a : Statement) (scope : Scope) (root : ℕ → ℕ) (grown : ℕ → Bool)
        → StandIn scope grown → is_statement fields memories callees scope root a ≡ true
        → OfStatement (IsOfKnown grown) (put_statement put (re_statement to a))
    statement_of_known a scope root grown st h =
        statement_put (IsOfKnown grown) (λ b c i j. ap₂ ◌&&◌ i j) to put
        (grown_names grown st.more) (grown_flags grown st.more) a
        (statement_so fields scope (λ e. IsOfKnown grown (put_control put (re_control to e)))
        (λ reads e k. expression_so scope grown st reads e k) memories callees root a h)

    mutual
      pub block_of_known : (b : Block) (scope : Scope) (root : ℕ → ℕ) (grown : ℕ → Bool)
          → StandIn scope grown → Owning (has_binder b)
          → is_block fields memories callees scope root b ≡ true
          → AreOfKnown grown (put_block put (re_block to b))
      block_of_known end scope root grown st own h = tt
      block_of_known (next a b) scope root grown st own h =
          let q = and_parts (is_statement fields memories callees scope root a)
          (is_block fields memories callees (scope_after a scope) (roots_after a root) b) h in
          let first : Owning (step_has_binder a)
          = λ x e. own x (or_left (step_has_binder a x) (has_binder b x) e) in
          let rest : Owning (has_binder b)
          = λ x e. own x (or_right (step_has_binder a x) (has_binder b x) e) in
          let new = put_statement put (re_statement to a) in (
            statement_of_known a scope root grown st q.0,
            within_of_known a scope root grown st first q.0,
            block_of_known b (scope_after a scope) (roots_after a root) (known_behind new grown)
                (stand_more to known m by ps params (scope_after a scope)
                (known_behind (re_statement to a) grown) (known_behind new grown)
                (λ x k. subst (λ t. (t || grown x) ≡ true) (put_binds put (re_statement to a) x) k)
                (stand_after to known m by ps params a scope grown st first))
                rest q.1,
          )

      within_of_known : (a : Statement) (scope : Scope) (root : ℕ → ℕ) (grown : ℕ → Bool)
          → StandIn scope grown → Owning (step_has_binder a)
          → is_statement fields memories callees scope root a ≡ true
          → AreOfKnownWithin grown (put_statement put (re_statement to a))
      within_of_known (Assign x is e) scope root grown st own h = tt
      within_of_known (Reduce x is e) scope root grown st own h = tt
      within_of_known (Config f a) scope root grown st own h = tt
      within_of_known Pass scope root grown st own h = tt
      within_of_known (If t a b) scope root grown st own h =
          let p = and_parts (is_condition fields with_fields scope t) _ h in
          let q = and_parts (not (is_empty a) && (is_short a && is_short b)) _ p.1 in
          let ab = and_parts (is_block fields memories callees scope root a)
          (is_block fields memories callees scope root b) q.1 in (
            block_of_known a scope root grown st
                (λ x e. own x (or_left (has_binder a x) (has_binder b x) e)) ab.0,
            block_of_known b scope root grown st
                (λ x e. own x (or_right (has_binder a x) (has_binder b x) e)) ab.1,
          )
      within_of_known (For i lo hi b) scope root grown st own h =
          let p = and_parts (is_new scope i) _ h in
          let q = and_parts (is_control fields plainly scope lo && is_control fields plainly scope hi) _ p.1 in
          let body = and_parts (not (is_empty b) && is_short b) _ q.1 in
          block_of_known b (with_name scope i (ControlName Index)) root grown
          (with_loop to known m by ps params scope grown i st
          (own i.id (or_left (i.id == i.id) (has_binder b i.id) (eq-eqb i.id i.id refl))))
          (λ x e. own x (or_right (x == i.id) (has_binder b x) e)) body.1
      within_of_known (Alloc x cell dims memory) scope root grown st own h = tt
      within_of_known (View w x cs) scope root grown st own h = tt
      within_of_known (Call k args) scope root grown st own h = tt
