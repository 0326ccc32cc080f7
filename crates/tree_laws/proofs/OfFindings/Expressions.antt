-- Expressions, windows and arguments in which nothing but names is found.
use Rattle.std.proofs.Common.{◌≡◌, ◌==◌, ℕ, pos, int_lt, nat_lt, true, not, ◌&&◌, ◌||◌, List, [], ◌∷◌, length, Option, Some, None, refl}
use Rattle.exo_tree.specs.Tree.{Cell, Kind, Control, Lit, Var, Field, StrideOf, Neg, Add, Sub, Mul, Div, Mod}
use Rattle.exo_tree.specs.Tree.{Condition, True, False, Flag, FieldFlag, Lt, Le, Gt, Ge, Eq, And, Or}
use Rattle.exo_tree.specs.Tree.{Datum, Const, Read, Negated, Relu, Plus, Minus, Times, Select}
use Rattle.exo_tree.specs.Tree.{Coord, At, Span, Argument, ControlArg, ConditionArg, Whole, Window}
use Rattle.exo_tree.specs.Tree.{Param, ParamKind, ControlParam, TensorParam, WindowParam}
use Rattle.exo_meaning.specs.Calls.{Callee}
use Rattle.exo_meaning.specs.Units.{Scope, sort_in, Reads, plainly, with_strides, with_both, is_truth}
use Rattle.exo_meaning.specs.Units.{is_number, is_flag, has_rank, has_dimension, has_cell, is_dense, spans}
use Rattle.exo_meaning.specs.Units.{is_control, are_controls, is_condition, is_access, is_datum, is_coord}
use Rattle.exo_meaning.specs.Units.{is_window, is_of_kind, is_for_tensor, is_for_window, is_for, are_for}
use Rattle.exo_meaning.specs.Units.{is_literal_number, is_of_literals, is_call, is_write, share_nothing_written}
use Rattle.tree_findings.specs.declared.findings.Findings.{Findings}
use Rattle.tree_findings.specs.Classes.{both, all_of, rule, limit, use_of}
use Rattle.tree_findings.specs.Sizes.{is_small_control, is_small_condition, is_small_datum}
use Rattle.tree_findings.specs.Sizes.{deepest_coord}
use Rattle.tree_findings.specs.Findings.{found_in_divisor, found_in_control, findings_of_control}
use Rattle.tree_findings.specs.Findings.{findings_of_controls}
use Rattle.tree_findings.specs.Findings.{found_in_condition, findings_of_condition}
use Rattle.tree_findings.specs.Findings.{findings_of_access}
use Rattle.tree_findings.specs.Findings.{found_in_datum, findings_of_datum, findings_of_coord}
use Rattle.tree_findings.specs.Findings.{findings_of_window}
use Rattle.tree_findings.specs.Findings.{findings_of_kind, findings_of_tensor, findings_of_strided}
use Rattle.tree_findings.specs.Findings.{findings_of_argument, findings_of_arguments}
use Rattle.tree_findings.specs.Findings.{findings_of_call, findings_of_write}
use Rattle.tree_laws.specs.Findings.Exact.{ControlLaw, ConditionLaw}
use Rattle.tree_laws.proofs.OfFindings.Parts.{Obeys, obeys_of, split, use_is, each}

module _ (fields : ℕ → Option Kind) where
  module _ (may : Reads) (scope : Scope) where
    abbrev found : Control → Findings
    found = found_in_control fields may scope

    inside : (e : Control) → Obeys (found e) → is_control fields may scope e ≡ true
    inside (Lit n) h = h.limits
    inside (Var x) h = use_is is_number (sort_in scope x) h
    inside (Field f) h = h.rules
    inside (StrideOf x k) h =
        let p = split (rule may.strides) (use_of (has_dimension k) (sort_in scope x)) h in
        let own : may.strides ≡ true = p.0.rules in
        let known = use_is (has_dimension k) (sort_in scope x) p.1 in
        λ i. own i && known i
    inside (Neg a) h = inside a h
    inside (Add a b) h =
        let p = split (found a) (found b) h in
        let x = inside a p.0 in
        let y = inside b p.1 in
        λ i. x i && y i
    inside (Sub a b) h =
        let p = split (found a) (found b) h in
        let x = inside a p.0 in
        let y = inside b p.1 in
        λ i. x i && y i
    inside (Mul a b) h =
        let q = split (both (found a) (found b)) (rule (is_of_literals a || is_of_literals b)) h in
        let p = split (found a) (found b) q.0 in
        let x = inside a p.0 in
        let y = inside b p.1 in
        let z = q.1.rules in
        λ i. (x i && y i) && z i
    inside (Div a c) h =
        let q = split (found a) (found_in_divisor c) h in
        let p = split (limit (is_literal_number c)) (rule (int_lt (pos 0) c)) q.1 in
        let x = inside a q.0 in
        let y = p.0.limits in
        let z = p.1.rules in
        λ i. x i && (y i && z i)
    inside (Mod a c) h =
        let q = split (found a) (found_in_divisor c) h in
        let p = split (limit (is_literal_number c)) (rule (int_lt (pos 0) c)) q.1 in
        let x = inside a q.0 in
        let y = p.0.limits in
        let z = p.1.rules in
        λ i. x i && (y i && z i)

    pub whole : (e : Control) → Obeys (findings_of_control fields may scope e) → is_control fields may scope e ≡ true
    whole e h = inside e (split (found e) (limit (is_small_control e)) h).0

    pub wholes : (es : List Control) → Obeys (findings_of_controls fields may scope es) → are_controls fields may scope es ≡ true
    wholes es h = each (findings_of_control fields may scope) (is_control fields may scope) whole es h

    two : (a b : Control) → Obeys (both (found a) (found b)) → (is_control fields may scope a && is_control fields may scope b) ≡ true
    two a b h =
        let p = split (found a) (found b) h in
        let x = inside a p.0 in
        let y = inside b p.1 in
        λ i. x i && y i

    inside_condition : (c : Condition) → Obeys (found_in_condition fields may scope c) → is_condition fields may scope c ≡ true
    inside_condition True h = refl
    inside_condition False h = refl
    inside_condition (Flag x) h = use_is is_flag (sort_in scope x) h
    inside_condition (FieldFlag f) h = h.rules
    inside_condition (Lt a b) h = two a b h
    inside_condition (Le a b) h = two a b h
    inside_condition (Gt a b) h = two a b h
    inside_condition (Ge a b) h = two a b h
    inside_condition (Eq a b) h = two a b h
    inside_condition (And c d) h =
        let p = split (found_in_condition fields may scope c) (found_in_condition fields may scope d) h in
        let x = inside_condition c p.0 in
        let y = inside_condition d p.1 in
        λ i. x i && y i
    inside_condition (Or c d) h =
        let p = split (found_in_condition fields may scope c) (found_in_condition fields may scope d) h in
        let x = inside_condition c p.0 in
        let y = inside_condition d p.1 in
        λ i. x i && y i

    pub whole_condition : (c : Condition) → Obeys (findings_of_condition fields may scope c) → is_condition fields may scope c ≡ true
    whole_condition c h = inside_condition c (split (found_in_condition fields may scope c) (limit (is_small_condition c)) h).0

  module _ (scope : Scope) where
    pub access : (x : ℕ) (is : List Control) → Obeys (findings_of_access fields scope x is) → is_access fields scope x is ≡ true
    access x is h =
        let p = split (use_of (has_rank (length is)) (sort_in scope x)) (findings_of_controls fields plainly scope is) h in
        let a = use_is (has_rank (length is)) (sort_in scope x) p.0 in
        let b = wholes plainly scope is p.1 in
        λ i. a i && b i

    inside_datum : (e : Datum) → Obeys (found_in_datum fields scope e) → is_datum fields scope e ≡ true
    inside_datum (Const n) h = h.limits
    inside_datum (Read x is) h = access x is h
    inside_datum (Negated a) h = inside_datum a h
    inside_datum (Relu a) h = inside_datum a h
    inside_datum (Plus a b) h =
        let p = split (found_in_datum fields scope a) (found_in_datum fields scope b) h in
        let x = inside_datum a p.0 in
        let y = inside_datum b p.1 in
        λ i. x i && y i
    inside_datum (Minus a b) h =
        let p = split (found_in_datum fields scope a) (found_in_datum fields scope b) h in
        let x = inside_datum a p.0 in
        let y = inside_datum b p.1 in
        λ i. x i && y i
    inside_datum (Times a b) h =
        let p = split (found_in_datum fields scope a) (found_in_datum fields scope b) h in
        let x = inside_datum a p.0 in
        let y = inside_datum b p.1 in
        λ i. x i && y i
    inside_datum (Select a b c d) h =
        let p = split (both (found_in_datum fields scope a) (found_in_datum fields scope b)) (both (found_in_datum fields scope c) (found_in_datum fields scope d)) h in
        let q = split (found_in_datum fields scope a) (found_in_datum fields scope b) p.0 in
        let r = split (found_in_datum fields scope c) (found_in_datum fields scope d) p.1 in
        let x = inside_datum a q.0 in
        let y = inside_datum b q.1 in
        let z = inside_datum c r.0 in
        let w = inside_datum d r.1 in
        λ i. (x i && y i) && (z i && w i)

    pub datum : (e : Datum) → Obeys (findings_of_datum fields scope e) → is_datum fields scope e ≡ true
    datum e h = inside_datum e (split (found_in_datum fields scope e) (limit (is_small_datum e)) h).0

    coord : (c : Coord) → Obeys (findings_of_coord fields scope c) → is_coord fields scope c ≡ true
    coord (At a) h = whole plainly scope a h
    coord (Span a b) h =
        let p = split (findings_of_control fields plainly scope a) (findings_of_control fields plainly scope b) h in
        let x = whole plainly scope a p.0 in
        let y = whole plainly scope b p.1 in
        λ i. x i && y i

    pub window : (x : ℕ) (cs : List Coord) → Obeys (findings_of_window fields scope x cs) → is_window fields scope x cs ≡ true
    window x cs h =
        let p = split (use_of (has_rank (length cs)) (sort_in scope x)) (all_of (findings_of_coord fields scope) cs) h in
        let a = use_is (has_rank (length cs)) (sort_in scope x) p.0 in
        let b = each (findings_of_coord fields scope) (is_coord fields scope) coord cs p.1 in
        λ i. a i && b i

    pub of_kind : (may : Reads) (kind : Kind) (a : Argument) → Obeys (findings_of_kind fields may scope kind a) → is_of_kind fields may scope kind a ≡ true
    of_kind may kind (ControlArg a) h =
        let p = split (rule (not (is_truth kind))) (findings_of_control fields may scope a) h in
        let x : not (is_truth kind) ≡ true = p.0.rules in
        let y = whole may scope a p.1 in
        λ i. x i && y i
    of_kind may kind (ConditionArg c) h =
        let p = split (rule (is_truth kind)) (findings_of_condition fields may scope c) h in
        let x : is_truth kind ≡ true = p.0.rules in
        let y = whole_condition may scope c p.1 in
        λ i. x i && y i
    of_kind may kind (Whole x) h = h.rules
    of_kind may kind (Window x coords) h = h.rules

    for_tensor : (cell : Cell) (rank : ℕ) (a : Argument) → Obeys (findings_of_tensor fields scope cell rank a) → is_for_tensor fields scope cell rank a ≡ true
    for_tensor cell rank (ControlArg a) h = h.rules
    for_tensor cell rank (ConditionArg c) h = h.rules
    for_tensor cell rank (Whole x) h = use_is (λ s. has_cell cell s && (has_rank rank s && ((rank == 0) || is_dense s))) (sort_in scope x) h
    for_tensor cell rank (Window x coords) h =
        let alone = rule ((rank == 0) && ((spans coords == 0) && not (length coords == 0))) in
        let shallow = limit (nat_lt (deepest_coord coords) 64) in
        let p = split (both (use_of (has_cell cell) (sort_in scope x)) (findings_of_window fields scope x coords)) (both alone shallow) h in
        let q = split (use_of (has_cell cell) (sort_in scope x)) (findings_of_window fields scope x coords) p.0 in
        let r = split alone shallow p.1 in
        let a = use_is (has_cell cell) (sort_in scope x) q.0 in
        let b = window x coords q.1 in
        let c = r.0.rules in
        λ i. a i && (b i && c i)

    for_window : (cell : Cell) (rank : ℕ) (a : Argument) → Obeys (findings_of_strided fields scope cell rank a) → is_for_window fields scope cell rank a ≡ true
    for_window cell rank (ControlArg a) h = h.rules
    for_window cell rank (ConditionArg c) h = h.rules
    for_window cell rank (Whole x) h = use_is (λ s. has_cell cell s && has_rank rank s) (sort_in scope x) h
    for_window cell rank (Window x coords) h =
        let p = split (both (use_of (has_cell cell) (sort_in scope x)) (findings_of_window fields scope x coords)) (rule (rank == spans coords)) h in
        let q = split (use_of (has_cell cell) (sort_in scope x)) (findings_of_window fields scope x coords) p.0 in
        let a = use_is (has_cell cell) (sort_in scope x) q.0 in
        let b = window x coords q.1 in
        let c = p.1.rules in
        λ i. a i && (b i && c i)

    argument : (kind : ParamKind) (a : Argument) → Obeys (findings_of_argument fields scope kind a) → is_for fields scope kind a ≡ true
    argument (ControlParam kind) a h = of_kind with_both kind a h
    argument (TensorParam cell dims memory) a h = for_tensor cell (length dims) a h
    argument (WindowParam cell dims memory) a h = for_window cell (length dims) a h

    arguments : (ps : List Param) (args : List Argument) → Obeys (findings_of_arguments fields scope ps args) → are_for fields scope ps args ≡ true
    arguments [] [] h = refl
    arguments [] (a ∷ args) h = h.rules
    arguments (p ∷ ps) [] h = h.rules
    arguments (p ∷ ps) (a ∷ args) h =
        let q = split (findings_of_argument fields scope p.kind a) (findings_of_arguments fields scope ps args) h in
        let x = argument p.kind a q.0 in
        let y = arguments ps args q.1 in
        λ i. x i && y i

    pub call : (root : ℕ → ℕ) (o : Option Callee) (args : List Argument) → Obeys (findings_of_call fields scope root o args) → is_call fields scope root o args ≡ true
    call root None args h = h.rules
    call root (Some callee) args h =
        let ps = callee.procedure.params in
        let q = split (findings_of_arguments fields scope ps args) (rule (share_nothing_written fields callee.writes root ps args)) h in
        let x = arguments ps args q.0 in
        let y : share_nothing_written fields callee.writes root ps args ≡ true = q.1.rules in
        λ i. x i && y i

    pub write : (o : Option Kind) (a : Argument) → Obeys (findings_of_write fields scope o a) → is_write fields scope o a ≡ true
    write None a h = h.rules
    write (Some kind) a h = of_kind with_strides kind a h

pub control_law : ControlLaw
control_law fields may scope e h = whole fields may scope e (obeys_of (findings_of_control fields may scope e) h)

pub condition_law : ConditionLaw
condition_law fields may scope c h = whole_condition fields may scope c (obeys_of (findings_of_condition fields may scope c) h)
