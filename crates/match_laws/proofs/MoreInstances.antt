-- Blocks that agree, lists of positions that fit, and matches with wide numbers.
use Rattle.std.proofs.Common.{◌≡◌, ℕ, pos, ◌==◌, Bool, true, false, List, [], ◌∷◌, Some, None}
use Rattle.std.proofs.Common.{Option, option_map, refl, ap}
use Rattle.exo_tree.specs.Tree.{I32, Control, Lit, Var, Neg, Add, Sub, Mul, Const, Read}
use Rattle.exo_tree.specs.Tree.{At, Span, Argument, Whole, Window, ControlArg, Statement, Config, Call}
use Rattle.exo_tree.specs.Tree.{StrideOf, ControlParam, Stride}
use Rattle.affine_forms.specs.Atoms.{constantly}
use Rattle.affine_forms.specs.Forms.{Reading}
use Rattle.exo_tree.specs.Tree.{Assign, For, Alloc, Block, WindowParam, Param, Procedure}
use Rattle.exo_tree.specs.Tree.{end, next}
use Rattle.exo_meaning.specs.Orders.{Each}
use Rattle.exo_meaning.specs.Scene.{Range, Seen, Scene, window, narrowed, then_do}
use Rattle.exo_meaning.specs.Calls.{GivenView, given}
use Rattle.exo_meaning.specs.State.{State, place}
use Rattle.exo_meaning.specs.Run.{run}
use Rattle.exo_meaning.specs.Renaming.{Renaming}
use Rattle.affine_forms.specs.Forms.{anything}
use Rattle.inplace_laws.specs.Along.{SameAlong}
use Rattle.inplace_laws.specs.Windows.{shifted, joined_coords}
use Rattle.match_laws.specs.Simplify.SameControls.{OfEach}
use Rattle.match_laws.specs.Simplify.SimplifiedBlocks.{standing, IsRead}
use Rattle.match_laws.specs.Moved.{Moving, agree}
use Rattle.match_laws.specs.Windows.{Use, Spot, Offset, Point, fitting, coords_from}
use Rattle.match_laws.specs.Names.{names_of}
use Rattle.match_laws.specs.Matched.{Arguments, NoMatch, Undetermined, matched}
use Rattle.match_laws.specs.RenamedCallee.{re_procedure}
use Rattle.match_laws.specs.MatchedFits.{IsMatch}
use Rattle.match_laws.specs.Fitting.{IsComposed}
use Rattle.match_laws.specs.Widths.{Said, TooWide, matched_in_width, match_is_short}
use Rattle.match_laws.proofs.Single.{each_of_one}
use Rattle.match_laws.proofs.Alike.{agree_along, agree_runs}
use Rattle.match_laws.proofs.Fitting.{same_windows, same_places, fitting_law}
use Rattle.match_laws.specs.ArgumentFits.{IsFitting}
use Rattle.match_laws.proofs.ArgumentFits.{argument_fits}
use Rattle.match_laws.proofs.MatchedFits.{matched_fits}
use Rattle.match_laws.proofs.Widths.{width_law, too_wide_law}
use Rattle.match_laws.proofs.RenamedMatch.{match_is_renamed}
use Rattle.match_laws.proofs.WholeIsWindow.{whole_is_window}
use Rattle.match_laws.proofs.Instances.{own, lit, loop, copy8, product, at_lane, tile}
use Rattle.match_laws.proofs.Instances.{loaded}
use Rattle.match_laws.proofs.Instances.{loads, world, reads, step, nest, zeros, rows, at_rest}

-- ---- x[7 - i] = 5 and x[-i + 7] = 5

abbrev store : Control → Statement
store e = Assign 4 (e ∷ []) (Const (pos 5))

abbrev alone : Control → Block
alone e = next (store e) end

abbrev down : Control
down = Sub (lit 7) (Var 0)

abbrev up : Control
up = Add (Neg (Var 0)) (lit 7)

down_is_read : (s : State) → OfEach world (IsRead own) (alone down) s
down_is_read s = each_of_one world (IsRead own) (store down) s refl
    (λ u. (((reads (standing u.scene) u.scene, refl), tt), tt))

up_is_read : (s : State) → OfEach world (IsRead own) (alone up) s
up_is_read s = each_of_one world (IsRead own) (store up) s refl
    (λ u. (((reads (standing u.scene) u.scene, refl), tt), tt))

stores_agree : (s : State) → SameAlong world (alone down) (alone up) s
stores_agree s = agree_along world own (alone down) (alone up) s refl (down_is_read s)
    (up_is_read s)

stores_run_alike : (s : State) → run world (alone down) s ≡ run world (alone up) s
stores_run_alike s = agree_runs world own (alone down) (alone up) s refl (down_is_read s)
    (up_is_read s)

-- ---- src[l] of copy8 against C[i, 8 * jo + ji]

abbrev in_block : Moving
in_block = record {
  variable = λ x. Some (Var 11);
  flag = λ x. None;
  stride = λ x k. None;
}

abbrev ji : ℕ → Bool
ji x = x == 11

abbrev source : Use
source = record {
  path = step 0 ∷ [];
  ours = At (Var 2) ∷ [];
  name = 5;
  theirs = At (Var 6) ∷ At at_lane ∷ [];
}

abbrev spots_of_it : List Spot
spots_of_it = Point (Var 6) ∷ Offset (Sub at_lane (Var 11)) ∷ []

it_fits : fitting own in_block ji (false ∷ true ∷ []) source [] ≡ Some spots_of_it
it_fits = refl

its_window : coords_from own in_block ji spots_of_it (lit 8 ∷ []) ≡ At (Var 6) ∷ tile ∷ []
its_window = refl

composed : (scene : Scene)
    → Each (IsComposed anything in_block scene 1 (At (Var 6) ∷ tile ∷ [])) (source ∷ [])
composed scene = fitting_law anything own in_block ji scene (false ∷ true ∷ []) source []
    spots_of_it (lit 8 ∷ []) refl (reads anything scene) (refl, (refl, tt))

-- C[i, 8 * jo + ji] of the window's index ji
one_place : (scene : Scene)
    → place scene 5 (shifted (At (Var 6) ∷ tile ∷ []) (Var 11 ∷ []))
    ≡ place scene 5 (Var 6 ∷ at_lane ∷ [])
one_place scene = same_places scene 5 (At (Var 6) ∷ tile ∷ []) (Var 11 ∷ [])
    (Var 6 ∷ at_lane ∷ []) ((composed scene).0 refl (refl, tt) (refl, (refl, tt)))

one_window : (scene : Scene)
    → window scene 5 (joined_coords (At (Var 6) ∷ tile ∷ []) (At (Var 11) ∷ []))
    ≡ window scene 5 (At (Var 6) ∷ At at_lane ∷ [])
one_window scene = same_windows scene 5
    (joined_coords (At (Var 6) ∷ tile ∷ []) (At (Var 11) ∷ [])) (At (Var 6) ∷ At at_lane ∷ [])
    ((composed scene).0 refl (refl, tt) (refl, (refl, tt)))

-- ---- the load of a vector

abbrev load : Block
load = loop 11 (lit 8) (Assign 9 (Var 11 ∷ []) (Read 5 (Var 6 ∷ at_lane ∷ [])))

load_fits : IsMatch own product load copy8 loaded
load_fits = matched_fits own product load copy8 loaded loads

-- ---- widths

loads_are_short : matched_in_width own product load copy8 ≡ Said (Arguments loaded)
loads_are_short = refl

so_they_are_matched : matched own product load copy8 ≡ Arguments loaded
so_they_are_matched = width_law own product load copy8 (Arguments loaded) refl

-- more than 2^62
abbrev wide : Control
wide = Lit (pos 4611686018427387905)

wide_bounds_are_told : matched_in_width own rows (nest 6 7 wide 3) zeros ≡ TooWide
wide_bounds_are_told = refl

they_are_wide : match_is_short own rows (nest 6 7 wide 3) zeros ≡ false
they_are_wide = (too_wide_law own rows (nest 6 7 wide 3) zeros).0 refl

-- a difference before them is told first
abbrev five_times : Block
five_times = loop 6 (lit 5) (For (record { id = 7; name = [] }) (lit 0) wide
    (next (Assign 3 (Var 7 ∷ []) (Const (pos 0))) end))

differences_come_first : matched_in_width own rows five_times zeros
    ≡ Said (NoMatch (step 0 ∷ []))
differences_come_first = refl

-- ---- the argument for src of copy8

source_fits : IsFitting own in_block ji false (lit 8 ∷ []) product (source ∷ [])
    (Window 5 (At (Var 6) ∷ tile ∷ []))
source_fits = argument_fits own in_block ji false (lit 8 ∷ []) product (source ∷ [])
    (Window 5 (At (Var 6) ∷ tile ∷ [])) refl

-- ---- a callee with other ids

loads_by_any_ids : (r : Renaming)
    → matched own product load (re_procedure r copy8) ≡ Arguments loaded
loads_by_any_ids r = match_is_renamed r own product load copy8

-- what is told of the callee alone is told by the other id
rests_by_any_ids : (r : Renaming)
    → matched own rows (next (Assign 3 (Var 1 ∷ []) (Const (pos 0))) end) (re_procedure r at_rest)
    ≡ Undetermined (r.to 0)
rests_by_any_ids r =
    match_is_renamed r own rows (next (Assign 3 (Var 1 ∷ []) (Const (pos 0))) end) at_rest

-- ---- names bound in the block: t : i32[8]; z[0] = 1; for i in seq(0, hi): x[i] = 1

abbrev filled : ℕ → ℕ → ℕ → ℕ → Control → Block
filled t i z x hi =
    next (Alloc (record { id = t; name = [] }) I32 (lit 8 ∷ []) 0)
    (next (Assign z (lit 0 ∷ []) (Const (pos 1)))
    (loop i hi (Assign x (Var i ∷ []) (Const (pos 1)))))

abbrev eight : ℕ → Param
eight x =
    record { binder = record { id = x; name = [] }; kind = WindowParam I32 (lit 8 ∷ []) 0 }

abbrev of_two : List Param → Block → Procedure
of_two ps b = record { name = []; params = ps; asserts = []; body = b; template = None }

-- a parameter against a name bound in the block is the first difference
bound_names_differ : matched own (names_of (of_two (eight 0 ∷ []) (filled 1 2 1 0 (lit 4))))
    (filled 1 2 1 0 (lit 4))
    (of_two (eight 0 ∷ eight 1 ∷ []) (filled 2 3 1 0 (lit 3))) ≡ NoMatch (step 1 ∷ [])
bound_names_differ = refl

-- of what breaks the rules of expressions no form is asked
abbrev twice_named : Control
twice_named = Mul (Var 1) (Var 1)

they_do_not_agree : agree own twice_named twice_named ≡ false
they_do_not_agree = refl

-- ---- names given whole: h(x) against h(y[0:8]), and the other way round

abbrev passes : Argument → Block
passes a = next (Call 0 (a ∷ [])) end

abbrev from_start : ℕ → Control → Argument
from_start x hi = Window x (Span (lit 0) hi ∷ [])

wholes_are_windows : matched own (names_of (of_two (eight 5 ∷ []) end))
    (passes (from_start 5 (lit 8))) (of_two (eight 0 ∷ []) (passes (Whole 0)))
    ≡ Arguments (from_start 5 (lit 8) ∷ [])
wholes_are_windows = refl

windows_are_wholes : matched own (names_of (of_two (eight 5 ∷ []) end)) (passes (Whole 5))
    (of_two (eight 0 ∷ []) (passes (from_start 0 (lit 8)))) ≡ Arguments (from_start 5 (lit 8) ∷ [])
windows_are_wholes = refl

parts_are_not : matched own (names_of (of_two (eight 5 ∷ []) end)) (passes (Whole 5))
    (of_two (eight 0 ∷ []) (passes (from_start 0 (lit 4)))) ≡ NoMatch (step 0 ∷ [])
parts_are_not = refl

-- t : i32[8]; h(t) against h(t[0:8]): of a name of the callee's own they differ
abbrev hands : Argument → Block
hands a = next (Alloc (record { id = 1; name = [] }) I32 (lit 8 ∷ []) 0) (passes a)

own_wholes_differ : matched own (names_of (of_two [] (hands (from_start 1 (lit 8)))))
    (hands (from_start 1 (lit 8))) (of_two [] (hands (Whole 1))) ≡ NoMatch (step 1 ∷ [])
own_wholes_differ = refl

own_windows_differ : matched own (names_of (of_two [] (hands (Whole 1)))) (hands (Whole 1))
    (of_two [] (hands (from_start 1 (lit 8)))) ≡ NoMatch (step 1 ∷ [])
own_windows_differ = refl

-- ---- a whole window is the name, where no extent is 0

abbrev seen_of : Control → Seen
seen_of (Lit n) = record { buffer = 0; sides = Range (pos 0) n ∷ [] }
seen_of e = record { buffer = 0; sides = [] }

eight_are_whole : (scene : Scene) → scene.views 0 ≡ Some (seen_of (lit 8))
    → given scene (Window 0 (Span (lit 0) (lit 8) ∷ [])) ≡ given scene (Whole 0)
eight_are_whole scene h = whole_is_window scene 0 (seen_of (lit 8)) (lit 8 ∷ [])
    (Span (lit 0) (lit 8) ∷ []) h refl refl (refl, refl, tt)

none_are_a_fault : (scene : Scene) → scene.views 0 ≡ Some (seen_of (lit 0))
    → given scene (Window 0 (Span (lit 0) (lit 0) ∷ [])) ≡ None
none_are_a_fault scene h = ap (λ (o : Option Seen). option_map GivenView (then_do o (λ seen.
    option_map (λ sides. record { buffer = seen.buffer; sides = sides })
    (narrowed scene seen.sides (Span (lit 0) (lit 0) ∷ []))))) h

-- ---- a stride stands for a parameter, also in an index: Cfg.s = s; x[s] = 0

abbrev strided : Control → Control → ℕ → Block
strided value index x =
    next (Config 0 (ControlArg value)) (next (Assign x (index ∷ []) (Const (pos 0))) end)

-- where a stride of a tensor is known to be 1
abbrev dense : Reading
dense = record own { stride = λ x k. constantly (pos 1) }

strides_stand_in_indices : matched dense (names_of (of_two (eight 0 ∷ eight 1 ∷ []) end))
    (strided (StrideOf 0 0) (lit 1) 1)
    (of_two (record { binder = record { id = 0; name = [] }; kind = ControlParam Stride } ∷ eight 1 ∷ [])
    (strided (Var 0) (Var 0) 1))
    ≡ Arguments (ControlArg (StrideOf 0 0) ∷ Window 1 (Span (lit 0) (lit 8) ∷ []) ∷ [])
strides_stand_in_indices = refl
