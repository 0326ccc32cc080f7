-- In a well-formed procedure all expressions are affine.
use Rattle.std.proofs.Common.{◌≡◌, ℕ, pos, int_lt, nat_lt, ◌==◌, Bool, true, not, ◌&&◌, ◌||◌, List, [], ◌∷◌, length, Option, refl, sym, true≢false}
use Rattle.std.specs.List.{list_all}
use Rattle.std.specs.Int.{is_positive}
use Rattle.std.proofs.lemmas.Bool.{and_parts, and_from}
use Rattle.exo_tree.specs.Tree.{Cell, Kind, Control, Lit, Var, Field, StrideOf, Neg, Add, Sub, Mul, Div, Mod, Condition, True, False, Flag, FieldFlag, Lt, Le, Gt, Ge, Eq, And, Or, Coord, At, Span, Argument, ControlArg, ConditionArg, Whole, Window, Param, ParamKind, ControlParam, TensorParam, WindowParam}
use Rattle.exo_meaning.specs.Units.{Scope, Reads, plainly, with_both, is_of_literals, is_literal_number, is_truth, sort_in, has_rank, has_cell, spans, is_control, are_controls, is_condition, is_coord, is_window, is_of_kind, is_for_tensor, is_for_window, is_for, are_for, is_new, is_rank, is_param_kind, are_params, with_name, param_sort}
use Rattle.affine_forms.specs.Forms.{keeps_rules}
use Rattle.affine_forms.specs.Formulas.{condition_keeps_rules}
use Rattle.check_claims.specs.Extents.{dims_of}

-- ---- what is affine

abbrev pub coord_keeps_rules : Coord → Bool
coord_keeps_rules (At a) = keeps_rules a
coord_keeps_rules (Span a b) = keeps_rules a && keeps_rules b

abbrev pub argument_keeps_rules : Argument → Bool
argument_keeps_rules (ControlArg a) = keeps_rules a
argument_keeps_rules (ConditionArg c) = condition_keeps_rules c
argument_keeps_rules (Whole x) = true
argument_keeps_rules (Window x coords) = list_all coord_keeps_rules coords

abbrev pub dims_keep_rules : Param → Bool
dims_keep_rules p = list_all keeps_rules (dims_of p.kind)

-- what passes one test of a list passes another
pub all_pass : {X : Type 0} (f g : X → Bool) → ((x : X) → f x ≡ true → g x ≡ true) → (xs : List X) → list_all f xs ≡ true → list_all g xs ≡ true
all_pass f g h [] k = refl
all_pass f g h (x ∷ xs) k = let p = and_parts (f x) (list_all f xs) k in and_from (g x) (list_all g xs) (h x p.0) (all_pass f g h xs p.1)

module _ (fields : ℕ → Option Kind) where
  module _ (may : Reads) (scope : Scope) where
    pub affine : (e : Control) → is_control fields may scope e ≡ true → keeps_rules e ≡ true
    affine (Lit n) h = refl
    affine (Var x) h = refl
    affine (Field f) h = refl
    affine (StrideOf x k) h = refl
    affine (Neg a) h = affine a h
    affine (Add a b) h = let p = and_parts (is_control fields may scope a) (is_control fields may scope b) h in and_from (keeps_rules a) (keeps_rules b) (affine a p.0) (affine b p.1)
    affine (Sub a b) h = let p = and_parts (is_control fields may scope a) (is_control fields may scope b) h in and_from (keeps_rules a) (keeps_rules b) (affine a p.0) (affine b p.1)
    affine (Mul a b) h =
        let p = and_parts (is_control fields may scope a && is_control fields may scope b) (is_of_literals a || is_of_literals b) h in
        let q = and_parts (is_control fields may scope a) (is_control fields may scope b) p.0 in
        and_from (is_of_literals a || is_of_literals b) (keeps_rules a && keeps_rules b) p.1 (and_from (keeps_rules a) (keeps_rules b) (affine a q.0) (affine b q.1))
    affine (Div a c) h = let p = and_parts (is_control fields may scope a) (is_literal_number c && int_lt (pos 0) c) h in and_from (is_positive c) (keeps_rules a) (and_parts (is_literal_number c) (int_lt (pos 0) c) p.1).1 (affine a p.0)
    affine (Mod a c) h = let p = and_parts (is_control fields may scope a) (is_literal_number c && int_lt (pos 0) c) h in and_from (is_positive c) (keeps_rules a) (and_parts (is_literal_number c) (int_lt (pos 0) c) p.1).1 (affine a p.0)

    sides : (a b : Control) → (is_control fields may scope a && is_control fields may scope b) ≡ true → (keeps_rules a && keeps_rules b) ≡ true
    sides a b h = let p = and_parts (is_control fields may scope a) (is_control fields may scope b) h in and_from (keeps_rules a) (keeps_rules b) (affine a p.0) (affine b p.1)

    pub condition_affine : (c : Condition) → is_condition fields may scope c ≡ true → condition_keeps_rules c ≡ true
    condition_affine True h = refl
    condition_affine False h = refl
    condition_affine (Flag x) h = refl
    condition_affine (FieldFlag f) h = refl
    condition_affine (Lt a b) h = sides a b h
    condition_affine (Le a b) h = sides a b h
    condition_affine (Gt a b) h = sides a b h
    condition_affine (Ge a b) h = sides a b h
    condition_affine (Eq a b) h = sides a b h
    condition_affine (And c d) h = let p = and_parts (is_condition fields may scope c) (is_condition fields may scope d) h in and_from (condition_keeps_rules c) (condition_keeps_rules d) (condition_affine c p.0) (condition_affine d p.1)
    condition_affine (Or c d) h = let p = and_parts (is_condition fields may scope c) (is_condition fields may scope d) h in and_from (condition_keeps_rules c) (condition_keeps_rules d) (condition_affine c p.0) (condition_affine d p.1)

    pub all_affine : (es : List Control) → are_controls fields may scope es ≡ true → list_all keeps_rules es ≡ true
    all_affine = all_pass (is_control fields may scope) keeps_rules affine

  module _ (scope : Scope) where
    pub coord_affine : (c : Coord) → is_coord fields scope c ≡ true → coord_keeps_rules c ≡ true
    coord_affine (At a) h = affine plainly scope a h
    coord_affine (Span a b) h = sides plainly scope a b h

    pub window_affine : (x : ℕ) (coords : List Coord) → is_window fields scope x coords ≡ true → list_all coord_keeps_rules coords ≡ true
    window_affine x coords h = all_pass (is_coord fields scope) coord_keeps_rules coord_affine coords (and_parts (has_rank (length coords) (sort_in scope x)) (list_all (is_coord fields scope) coords) h).1

    -- ---- arguments

    pub given_affine : (may : Reads) (kind : Kind) (a : Argument) → is_of_kind fields may scope kind a ≡ true → argument_keeps_rules a ≡ true
    given_affine may kind (ControlArg a) h = affine may scope a (and_parts (not (is_truth kind)) (is_control fields may scope a) h).1
    given_affine may kind (ConditionArg c) h = condition_affine may scope c (and_parts (is_truth kind) (is_condition fields may scope c) h).1
    given_affine may kind (Whole x) h = refl
    given_affine may kind (Window x coords) h = absurd (true≢false (sym h))

    tensor_affine : (cell : Cell) (rank : ℕ) (a : Argument) → is_for_tensor fields scope cell rank a ≡ true → argument_keeps_rules a ≡ true
    tensor_affine cell rank (ControlArg a) h = absurd (true≢false (sym h))
    tensor_affine cell rank (ConditionArg c) h = absurd (true≢false (sym h))
    tensor_affine cell rank (Whole x) h = refl
    tensor_affine cell rank (Window x coords) h =
        let p = and_parts (has_cell cell (sort_in scope x)) (is_window fields scope x coords && ((rank == 0) && ((spans coords == 0) && not (length coords == 0)))) h in
        window_affine x coords (and_parts (is_window fields scope x coords) ((rank == 0) && ((spans coords == 0) && not (length coords == 0))) p.1).0

    part_affine : (cell : Cell) (rank : ℕ) (a : Argument) → is_for_window fields scope cell rank a ≡ true → argument_keeps_rules a ≡ true
    part_affine cell rank (ControlArg a) h = absurd (true≢false (sym h))
    part_affine cell rank (ConditionArg c) h = absurd (true≢false (sym h))
    part_affine cell rank (Whole x) h = refl
    part_affine cell rank (Window x coords) h =
        let p = and_parts (has_cell cell (sort_in scope x)) (is_window fields scope x coords && (rank == spans coords)) h in
        window_affine x coords (and_parts (is_window fields scope x coords) (rank == spans coords) p.1).0

    argument_affine : (kind : ParamKind) (a : Argument) → is_for fields scope kind a ≡ true → argument_keeps_rules a ≡ true
    argument_affine (ControlParam kind) a h = given_affine with_both kind a h
    argument_affine (TensorParam cell dims memory) a h = tensor_affine cell (length dims) a h
    argument_affine (WindowParam cell dims memory) a h = part_affine cell (length dims) a h

    pub arguments_affine : (ps : List Param) (args : List Argument) → are_for fields scope ps args ≡ true → list_all argument_keeps_rules args ≡ true
    arguments_affine [] [] h = refl
    arguments_affine [] (a ∷ args) h = absurd (true≢false (sym h))
    arguments_affine (p ∷ ps) [] h = absurd (true≢false (sym h))
    arguments_affine (p ∷ ps) (a ∷ args) h =
        let q = and_parts (is_for fields scope p.kind a) (are_for fields scope ps args) h in
        and_from (argument_keeps_rules a) (list_all argument_keeps_rules args) (argument_affine p.kind a q.0) (arguments_affine ps args q.1)

  -- ---- parameters

  module _ (memories : ℕ) where
    kind_affine : (scope : Scope) (kind : ParamKind) → is_param_kind fields memories scope kind ≡ true → list_all keeps_rules (dims_of kind) ≡ true
    kind_affine scope (ControlParam kind) h = refl
    kind_affine scope (TensorParam cell dims memory) h = all_affine plainly scope dims (and_parts (are_controls fields plainly scope dims) (is_rank (length dims) && nat_lt memory memories) h).0
    kind_affine scope (WindowParam cell dims memory) h = all_affine plainly scope dims (and_parts (are_controls fields plainly scope dims) ((is_rank (length dims) && nat_lt 0 (length dims)) && nat_lt memory memories) h).0

    pub params_affine : (scope : Scope) (ps : List Param) → are_params fields memories scope ps ≡ true → list_all dims_keep_rules ps ≡ true
    params_affine scope [] h = refl
    params_affine scope (p ∷ ps) h =
        let inner = with_name scope p.binder (param_sort p.kind) in
        let k = (and_parts (is_new scope p.binder) (is_param_kind fields memories scope p.kind && are_params fields memories inner ps) h).1 in
        let j = and_parts (is_param_kind fields memories scope p.kind) (are_params fields memories inner ps) k in
        and_from (dims_keep_rules p) (list_all dims_keep_rules ps) (kind_affine scope p.kind j.0) (params_affine inner ps j.1)
