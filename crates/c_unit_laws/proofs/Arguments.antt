-- Arguments that keep the rules, fit and are within the bounds of what they are for are such as the C follows.
use Rattle.std.proofs.Common.{◌≡◌, ◌≤◌, ◌==◌, ℕ, suc, Bool, true, false, not, ◌&&◌, ◌||◌, List, [], ◌∷◌, length, Option, refl, sym, ap, subst, arith, true≢false, eqb-true}
use Rattle.std.specs.Prelude.{⊤}
use Rattle.std.specs.List.{list_all}
use Rattle.std.proofs.lemmas.Bool.{and_parts}
use Rattle.exo_tree.specs.Tree.{Cell, Kind, Control, Argument, ControlArg, ConditionArg, Whole, Window, Coord, Param, ParamKind, ControlParam, TensorParam, WindowParam}
use Rattle.exo_meaning.specs.Units.{Scope, sort_in, is_truth, has_cell, has_rank, is_dense, spans, with_both, is_control, is_condition, is_coord, is_window, is_of_kind, is_for_tensor, is_for_window, is_for, are_for}
use Rattle.c_widths.specs.Widths.{is_narrow_argument, are_narrow_arguments, are_narrow_coords}
use Rattle.c_widths.specs.Raises.{argument_magnitude, AreCoveredFrom}
use Rattle.c_lowering.specs.Made.Lowered.{Forms}
use Rattle.c_lowering.specs.Made.LoweredUnit.{in_argument, in_arguments}
use Rattle.c_unit_laws.specs.Follows.Simulation.{Declared}
use Rattle.c_unit_laws.specs.Follows.Good.{IsAnyBuffer, IsGoodArgument, AreGoodArguments}
use Rattle.c_unit_laws.specs.Follows.Good.{AreGoodCoords, EndsInSpan}
use Rattle.c_unit_laws.proofs.Forms.{Fits, IsForm, typed_form, tensor_form, no_lanes, no_span}
use Rattle.c_unit_laws.proofs.Expressions.{good_coords, good_open, good_test}
use Rattle.c_unit_laws.proofs.Clear.{IsClearBuffer, IsClearArgument, AreClearArguments}

-- what is given at each place is within the bound of the parameter there
abbrev pub AreWithin : (ℕ → ℕ) → (ℕ → ℕ) → ℕ → List Param → Type 0
AreWithin bounds given i [] = ⊤
AreWithin bounds given i (p ∷ ps) = (given i ≤ bounds p.binder.id) × AreWithin bounds given (suc i) ps

no_zero : (n : ℕ) → (suc n == 0) ≡ true → ⊥
no_zero n h = let e = eqb-true (suc n) 0 h in omega (arith, e)

module _ (fields : ℕ → Option Kind) (lanes : ℕ → ℕ) (scope : Scope) (forms : Forms) (stand : Fits lanes scope forms) (declared : Declared) (most : ℕ → ℕ) where
  abbrev IsCovered : Argument → Type 0
  IsCovered a = (f : ℕ) → in_argument f a ≡ true → declared f ≡ true

  number_argument : (bound : ℕ) (function : Bool) (kind : Kind) (a : Argument) → is_of_kind fields with_both scope kind a ≡ true → IsCovered a → is_narrow_argument most a ≡ true → argument_magnitude most a ≤ bound → IsGoodArgument declared forms most bound function (ControlParam kind) a
  number_argument bound function kind (ControlArg a) h c k w = (good_open fields lanes scope forms stand declared with_both most a (and_parts (not (is_truth kind)) (is_control fields with_both scope a) h).1 c k, w)
  number_argument bound function kind (ConditionArg d) h c k w = (good_test fields lanes scope forms stand declared with_both most d (and_parts (is_truth kind) (is_condition fields with_both scope d) h).1 c k, w)
  number_argument bound function kind (Whole x) h c k w = absurd (true≢false (sym h))
  number_argument bound function kind (Window x coords) h c k w = absurd (true≢false (sym h))

  -- ---- windows

  -- a window of a typed buffer in parts
  record IsPart (cell : Cell) (x : ℕ) (coords : List Coord) : Type 0 where
    buffer : IsAnyBuffer forms x cell (length coords) (lanes x)
    good : AreGoodCoords forms most coords

  part : (cell : Cell) (x : ℕ) (coords : List Coord) → has_cell cell (sort_in scope x) ≡ true → is_window fields scope x coords ≡ true → are_narrow_coords most coords ≡ true → IsPart cell x coords
  part cell x coords c h k =
      let p = and_parts (has_rank (length coords) (sort_in scope x)) (list_all (is_coord fields scope) coords) h in
      record { buffer = typed_form (lanes x) (sort_in scope x) (forms x) cell (length coords) (stand x) c p.0; good = good_coords fields lanes scope forms stand most coords p.1 k }

  -- ---- tensors

  tensor_whole : (bound : ℕ) (function : Bool) (cell : Cell) (dims : List Control) (memory x : ℕ) → is_for_tensor fields scope cell (length dims) (Whole x) ≡ true → (function ≡ true → lanes x ≡ 0) → IsGoodArgument declared forms most bound function (TensorParam cell dims memory) (Whole x)
  tensor_whole bound function cell [] memory x h v =
      let p = and_parts (has_cell cell (sort_in scope x)) (has_rank 0 (sort_in scope x) && ((0 == 0) || is_dense (sort_in scope x))) h in
      let q = and_parts (has_rank 0 (sort_in scope x)) ((0 == 0) || is_dense (sort_in scope x)) p.1 in
      subst (IsForm (forms x) cell 0) (no_lanes (lanes x) (sort_in scope x) (forms x) (stand x) q.0)
      (typed_form (lanes x) (sort_in scope x) (forms x) cell 0 (stand x) p.0 q.0)
  tensor_whole bound function cell (d ∷ dims) memory x h v =
      let n = length (d ∷ dims) in
      let p = and_parts (has_cell cell (sort_in scope x)) (has_rank n (sort_in scope x) && ((n == 0) || is_dense (sort_in scope x))) h in
      let q = and_parts (has_rank n (sort_in scope x)) ((n == 0) || is_dense (sort_in scope x)) p.1 in
      let t = tensor_form (lanes x) (sort_in scope x) (forms x) cell n (stand x) p.0 q.0 (dense (n == 0) refl q.1) in
      (t.0, lanes x, t.1, t.2, v)
    where
      dense : (t : Bool) → (suc (length dims) == 0) ≡ t → (t || is_dense (sort_in scope x)) ≡ true → is_dense (sort_in scope x) ≡ true
      dense true e i = absurd (no_zero (length dims) e)
      dense false e i = i

  tensor_part : (bound : ℕ) (function : Bool) (cell : Cell) (dims : List Control) (memory x : ℕ) (coords : List Coord) → is_for_tensor fields scope cell (length dims) (Window x coords) ≡ true → are_narrow_coords most coords ≡ true → EndsInSpan (lanes x) coords → IsGoodArgument declared forms most bound function (TensorParam cell dims memory) (Window x coords)
  tensor_part bound function cell dims memory x coords h k v =
      let p = and_parts (has_cell cell (sort_in scope x)) (is_window fields scope x coords && ((length dims == 0) && ((spans coords == 0) && not (length coords == 0)))) h in
      let q = and_parts (is_window fields scope x coords) ((length dims == 0) && ((spans coords == 0) && not (length coords == 0))) p.1 in
      let r = and_parts (length dims == 0) ((spans coords == 0) && not (length coords == 0)) q.1 in
      let e = eqb-true (spans coords) 0 (and_parts (spans coords == 0) (not (length coords == 0)) r.1).0 in
      go dims r.0 e (part cell x coords p.0 q.0 k)
    where
      go : (ds : List Control) → (length ds == 0) ≡ true → spans coords ≡ 0 → IsPart cell x coords → IsGoodArgument declared forms most bound function (TensorParam cell ds memory) (Window x coords)
      go [] z e w = (subst (IsForm (forms x) cell (length coords)) (no_span (lanes x) coords v e) w.buffer, w.good, e)
      go (d ∷ ds) z e w = absurd (no_zero (length ds) z)

  tensor_argument : (bound : ℕ) (function : Bool) (cell : Cell) (dims : List Control) (memory : ℕ) (a : Argument) → is_for_tensor fields scope cell (length dims) a ≡ true → IsClearBuffer lanes function a → is_narrow_argument most a ≡ true → IsGoodArgument declared forms most bound function (TensorParam cell dims memory) a
  tensor_argument bound function cell dims memory (ControlArg a) h v k = absurd (true≢false (sym h))
  tensor_argument bound function cell dims memory (ConditionArg c) h v k = absurd (true≢false (sym h))
  tensor_argument bound function cell dims memory (Whole x) h v k = tensor_whole bound function cell dims memory x h v
  tensor_argument bound function cell dims memory (Window x coords) h v k = tensor_part bound function cell dims memory x coords h k v.1

  window_argument : (bound : ℕ) (function : Bool) (cell : Cell) (dims : List Control) (memory : ℕ) (a : Argument) → is_for_window fields scope cell (length dims) a ≡ true → IsClearBuffer lanes function a → is_narrow_argument most a ≡ true → IsGoodArgument declared forms most bound function (WindowParam cell dims memory) a
  window_argument bound function cell dims memory (ControlArg a) h v k = absurd (true≢false (sym h))
  window_argument bound function cell dims memory (ConditionArg c) h v k = absurd (true≢false (sym h))
  window_argument bound function cell dims memory (Whole x) h v k =
      let p = and_parts (has_cell cell (sort_in scope x)) (has_rank (length dims) (sort_in scope x)) h in
      (lanes x, typed_form (lanes x) (sort_in scope x) (forms x) cell (length dims) (stand x) p.0 p.1, v)
  window_argument bound function cell dims memory (Window x coords) h v k =
      let p = and_parts (has_cell cell (sort_in scope x)) (is_window fields scope x coords && (length dims == spans coords)) h in
      let q = and_parts (is_window fields scope x coords) (length dims == spans coords) p.1 in
      let w = part cell x coords p.0 q.0 k in
      (lanes x, w.buffer, v.0, w.good, sym (eqb-true (length dims) (spans coords) q.1), v.1)

  -- ---- all

  good_argument : (bound : ℕ) (function : Bool) (kind : ParamKind) (a : Argument) → is_for fields scope kind a ≡ true → IsClearArgument lanes function kind a → IsCovered a → is_narrow_argument most a ≡ true → argument_magnitude most a ≤ bound → IsGoodArgument declared forms most bound function kind a
  good_argument bound function (ControlParam kind) a h v c k w = number_argument bound function kind a h c k w
  good_argument bound function (TensorParam cell dims memory) a h v c k w = tensor_argument bound function cell dims memory a h v k
  good_argument bound function (WindowParam cell dims memory) a h v c k w = window_argument bound function cell dims memory a h v k

  pub good_arguments : (bounds given : ℕ → ℕ) (i : ℕ) (function : Bool) (ps : List Param) (args : List Argument) → are_for fields scope ps args ≡ true → AreClearArguments lanes function ps args → ((f : ℕ) → in_arguments f args ≡ true → declared f ≡ true) → are_narrow_arguments most args ≡ true → AreCoveredFrom given most i args → AreWithin bounds given i ps → AreGoodArguments declared forms most bounds function ps args
  good_arguments bounds given i function [] [] h v c k w u = tt
  good_arguments bounds given i function [] (a ∷ args) h v c k w u = absurd (true≢false (sym h))
  good_arguments bounds given i function (p ∷ ps) [] h v c k w u = absurd (true≢false (sym h))
  good_arguments bounds given i function (p ∷ ps) (a ∷ args) h v c k w u =
      let q = and_parts (is_for fields scope p.kind a) (are_for fields scope ps args) h in
      let r = and_parts (is_narrow_argument most a) (are_narrow_arguments most args) k in (
        good_argument (bounds p.binder.id) function p.kind a q.0 v.0 (λ f e. c f (ap (λ t. t || in_arguments f args) e)) r.0 (below (argument_magnitude most a) (given i) (bounds p.binder.id) w.0 u.0),
        good_arguments bounds given (suc i) function ps args q.1 v.1 (λ f e. c f (late (in_argument f a) (in_arguments f args) e)) r.1 w.1 u.1,
      )
    where
      late : (s t : Bool) → t ≡ true → (s || t) ≡ true
      late true t e = refl
      late false t e = e

      below : (l m n : ℕ) → l ≤ m → m ≤ n → l ≤ n
      below l m n e f = omega (arith, e, f)
