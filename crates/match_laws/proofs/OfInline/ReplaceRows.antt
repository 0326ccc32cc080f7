-- The rewrite replace on small units, and the calls inlined again.
use Rattle.std.proofs.Common.{◌≡◌, ℕ, ◌+◌, ◌==◌, Bool, if◌then◌else◌, pos, true, false, List, []}
use Rattle.std.proofs.Common.{◌∷◌, Option, Some, None}
use Rattle.std.proofs.Common.{IfSome, refl, sym, ◌∙◌, eqb-true}
use Rattle.exo_tree.specs.Tree.{I32, Kind, Index, Control, Var, Add, Const, Read, At, Span}
use Rattle.exo_tree.specs.Tree.{Argument, ControlArg, Window, ParamKind, ControlParam, TensorParam}
use Rattle.exo_tree.specs.Tree.{WindowParam}
use Rattle.exo_tree.specs.Tree.{Assign, Call, Block, end, next, Procedure}
use Rattle.inplace_laws.specs.Inline.{inlined}
use Rattle.match_laws.specs.Alike.{blocks_agree, nameless}
use Rattle.match_laws.proofs.Instances.{own, lit, loop, copy8, product, at_lane, loaded, step, rows}
use Rattle.match_laws.proofs.Instances.{zeros, nest}
use Rattle.exo_meaning.specs.Orders.{Each}
use Rattle.affine_forms.proofs.Values.{some_injective, none_some}
use Rattle.match_laws.specs.Moved.{moved}
use Rattle.match_laws.specs.Matched.{all_pairs}
use Rattle.match_laws.specs.MatchedFits.{given_names}
use Rattle.match_laws.specs.Inline.MovedIsPut.{Agrees, HasBlockIds}
use Rattle.match_laws.proofs.OfInline.MovedIsPut.{moved_is_put, matched_agrees}
use Rattle.match_laws.specs.Inline.AtOnce.{puts, put_block, put_control}
use Rattle.match_laws.specs.Inline.MatchLaw.{MayMatch}
use Rattle.match_laws.proofs.OfInline.Named.{named_dims}
use Rattle.match_laws.specs.Matched.{Arguments, matched}
use Rattle.match_laws.specs.Inline.InlineRule.{renumbered}
use Rattle.match_laws.specs.Inline.ReplaceRule.{AtPath, OfParam, Shared, replace_piece, replace_draft}
use Rattle.match_laws.specs.Inline.ReplaceRule.{replace_refusal}
use Rattle.match_laws.proofs.OfInline.AtOnce.{at_once}
use Rattle.match_laws.proofs.OfInline.Rows.{named, first, copy_n, param}

abbrev call : ℕ → List Argument → Block
call k args = next (Call k args) end

-- each name is the name of a buffer, and the callee writes its parameter 0
abbrev itself : ℕ → ℕ
itself x = x

abbrev first_only : ℕ → Bool
first_only x = x == 0

abbrev no_fields : ℕ → Option Kind
no_fields f = None

-- ---- for ji in seq(0, 8): c[ji] = C[i, 8 * jo + ji] is copy8(c[0:8], C[i, 8 * jo:8 * jo + 8])

abbrev pub load : Block
load = loop 11 (lit 8) (Assign 9 (Var 11 ∷ []) (Read 5 (Var 6 ∷ at_lane ∷ [])))

its_piece : replace_piece (named [] load) first 1 ≡ Some (record { path = first; count = 1 })
its_piece = refl

load_is_called : replace_draft own product copy8 3 load ≡ Some (call 3 loaded)
load_is_called = refl

load_is_not_refused : replace_refusal own product copy8 3 no_fields itself first_only load ≡ None
load_is_not_refused = refl

-- copy8 with the id of ji, and with its parameters out of the way
abbrev pub as_in_load : ℕ → ℕ
as_in_load x = if x == 2 then 11 else (x + 20)

abbrev pub inlined_load : Procedure → Block
inlined_load q = inlined q.params loaded q.body

-- the call inlined agrees with the block
it_agrees : blocks_agree own (nameless load) (nameless (inlined_load (renumbered as_in_load copy8)))
    ≡ true
it_agrees = refl

-- ---- for j in seq(0, m): A[i, j] = B[j] is copyn(m, A[i, 0:m], B[0:m])

abbrev pub row_loop : Block
row_loop = loop 5 (Var 1) (Assign 2 (Var 4 ∷ Var 5 ∷ []) (Read 3 (Var 5 ∷ [])))

abbrev pub row_arguments : List Argument
row_arguments = ControlArg (Var 1) ∷ Window 2 (At (Var 4) ∷ Span (lit 0) (Var 1) ∷ [])
    ∷ Window 3 (Span (lit 0) (Var 1) ∷ []) ∷ []

row_is_called : replace_draft own rows copy_n 0 row_loop ≡ Some (call 0 row_arguments)
row_is_called = refl

abbrev pub as_in_row : ℕ → ℕ
as_in_row x = if x == 3 then 5 else (x + 20)

abbrev pub inlined_row : Procedure → Block
inlined_row q = inlined q.params row_arguments q.body

row_agrees : blocks_agree own (nameless row_loop)
    (nameless (inlined_row (renumbered as_in_row copy_n))) ≡ true
row_agrees = refl

-- ---- p(j: index, B: i32[3]): B[j + j] = 3 determines no j

abbrev at_twice : Procedure
at_twice = named (param 0 (ControlParam Index) ∷ param 1 (TensorParam I32 (lit 3 ∷ []) 0) ∷ [])
    (next (Assign 1 (Add (Var 0) (Var 0) ∷ []) (Const (pos 3))) end)

first_is_not_determined : replace_refusal own rows at_twice 0 no_fields itself first_only row_loop
    ≡ Some (OfParam 0)
first_is_not_determined = refl

-- an inner bound that the block binds
bounds_are_refused : replace_refusal own rows zeros 0 no_fields itself first_only
    (nest 6 7 (Var 6) 3)
    ≡ Some (AtPath (step 0 ∷ step 0 ∷ []))
bounds_are_refused = refl

they_have_no_draft : replace_draft own rows zeros 0 (nest 6 7 (Var 6) 3) ≡ None
they_have_no_draft = refl

-- ---- c[ji] = c[ji + 8] is copy8(c[0:8], c[8:16]): that these are apart is owed by the result

abbrev along_one : Block
along_one = loop 11 (lit 8) (Assign 9 (Var 11 ∷ []) (Read 9 (Add (Var 11) (lit 8) ∷ [])))

windows_of_one_are_not_refused :
    replace_refusal own product copy8 3 no_fields itself first_only along_one ≡ None
windows_of_one_are_not_refused = refl

windows_of_one_are_called : replace_draft own product copy8 3 along_one
    ≡ Some (call 3 (Window 9 (Span (lit 0) (lit 8) ∷ [])
    ∷ Window 9 (Span (lit 8) (lit 16) ∷ []) ∷ []))
windows_of_one_are_called = refl

-- c[ji] = c[ji] would be whole8(c, c), or part8(c[0:8], c)

abbrev onto_itself : Block
onto_itself = loop 11 (lit 8) (Assign 9 (Var 11 ∷ []) (Read 9 (Var 11 ∷ [])))

abbrev eight : ParamKind
eight = TensorParam I32 (lit 8 ∷ []) 0

abbrev copied : Block
copied = loop 2 (lit 8) (Assign 0 (Var 2 ∷ []) (Read 1 (Var 2 ∷ [])))

abbrev whole8 : Procedure
whole8 = named (param 0 eight ∷ param 1 eight ∷ []) copied

abbrev part8 : Procedure
part8 = named (param 0 (WindowParam I32 (lit 8 ∷ []) 0) ∷ param 1 eight ∷ []) copied

tensors_are_refused :
    replace_refusal own product whole8 3 no_fields itself first_only onto_itself ≡ Some Shared
tensors_are_refused = refl

one_tensor_is_refused :
    replace_refusal own product part8 3 no_fields itself first_only onto_itself ≡ Some Shared
one_tensor_is_refused = refl

-- what is only read may be one
read_ones_are_not_refused :
    replace_refusal own product whole8 3 no_fields itself (λ x. false) onto_itself ≡ None
read_ones_are_not_refused = refl

-- ---- the arguments of the copied row, all at once

-- with names of the caller that are none of copyn's
abbrev row_at : List Argument
row_at = ControlArg (Var 11) ∷ Window 12 (At (Var 14) ∷ Span (lit 0) (Var 11) ∷ [])
    ∷ Window 13 (Span (lit 0) (Var 11) ∷ []) ∷ []

row_at_once : inlined copy_n.params row_at copy_n.body
    ≡ put_block (puts copy_n.params row_at) copy_n.body
row_at_once = at_once copy_n.params row_at copy_n.body refl refl

-- ---- the load, matched with copy8 under the id of ji

abbrev pub copy_here : Procedure
copy_here = renumbered as_in_load copy8

copy_has_block_ids : HasBlockIds own product load copy_here
copy_has_block_ids x y h = go (11 == x) refl h
  where
    go : (t : Bool) → (11 == x) ≡ t
        → elim (if t then Some 11 else None) [ None ↦ None | Some z ↦ Some z ] ≡ Some y → x ≡ y
    go true e k = sym (eqb-true 11 x e) ∙ some_injective 11 y k
    go false e k = absurd (none_some k)

load_expressions : (e : Control) → IfSome (moved (given_names own product load copy_here loaded) e)
    (λ f. f ≡ put_control (puts copy_here.params loaded) e)
load_expressions e =
    (moved_is_put own product load copy_here loaded copy_has_block_ids refl).0 e

load_agrees : Each (Agrees own (given_names own product load copy_here loaded)
    (puts copy_here.params loaded)) (all_pairs own product load copy_here)
load_agrees = matched_agrees own product load copy_here loaded refl copy_has_block_ids refl

-- ---- what the law of matched blocks asks, of the load and of the copied row

pub load_is_matched : matched own product load copy_here ≡ Arguments loaded
load_is_matched = refl

pub load_may_match : MayMatch own product load copy_here loaded (λ x. false)
load_may_match = record {
  kinds = refl;
  apart = refl;
  binders = refl;
  numbers = refl;
  stand = refl;
  strides = ((refl, refl), (((refl, tt), (refl, (refl, tt))), tt, tt), tt);
  named = named_dims copy_here refl;
  calls = refl;
}

abbrev pub row_here : Procedure
row_here = renumbered as_in_row copy_n

pub row_is_matched : matched own rows row_loop row_here ≡ Arguments row_arguments
row_is_matched = refl

pub row_may_match : MayMatch own rows row_loop row_here row_arguments (λ x. false)
row_may_match = record {
  kinds = refl;
  apart = refl;
  binders = refl;
  numbers = refl;
  stand = refl;
  strides = ((refl, refl), (((refl, (refl, tt)), (refl, tt)), tt, tt), tt);
  named = named_dims row_here refl;
  calls = refl;
}
