-- A block in which a buffer stands for a window of a name uses that name no more, where the old one
-- keeps the rules and uses no stride of it.
use Rattle.std.proofs.Common.{◌≡◌, ℕ, ◌==◌, ◌&&◌, ◌||◌, not, Bool, true, false, true≢false, cond}
use Rattle.std.proofs.Common.{List, [], ◌∷◌, length, Option, Some, None, refl, sym, ap, ap₂, ◌∙◌}
use Rattle.std.proofs.Common.{eqb-true, eq-eqb}
use Rattle.std.specs.List.{list_all}
use Rattle.exo_tree.specs.Tree.{Kind, Index, Control, Lit, Var, Field, StrideOf, Neg, Add, Sub, Mul}
use Rattle.exo_tree.specs.Tree.{Div, Mod}
use Rattle.exo_tree.specs.Tree.{Condition, True, False, Flag, FieldFlag, Lt, Le, Gt, Ge, Eq, And, Or}
use Rattle.exo_tree.specs.Tree.{Datum, Const, Read, Negated, Relu, Plus, Minus, Times, Select}
use Rattle.exo_tree.specs.Tree.{Coord, At, Span, Argument, ControlArg, ConditionArg, Whole, Window}
use Rattle.exo_tree.specs.Tree.{Param, ParamKind, ControlParam, TensorParam, WindowParam}
use Rattle.exo_tree.specs.Tree.{Statement, Assign, Reduce, Config, Pass, If, For, Alloc, View, Call}
use Rattle.exo_tree.specs.Tree.{Block, end, next}
use Rattle.exo_meaning.specs.Calls.{Callee}
use Rattle.exo_meaning.specs.Modes.{call_has}
use Rattle.exo_meaning.specs.Run.{roots_after}
use Rattle.exo_meaning.specs.Units.{Sort, ControlName, BufferName, Scope, sort_in, with_name, has_rank}
use Rattle.exo_meaning.specs.Units.{has_cell, scope_after, view_sort, spans, plainly, with_fields}
use Rattle.exo_meaning.specs.Units.{with_both, with_strides, Reads, is_number, is_flag, is_truth, is_new}
use Rattle.exo_meaning.specs.Units.{is_control, are_controls, is_condition, is_access, is_datum}
use Rattle.exo_meaning.specs.Units.{is_coord, is_window, is_of_kind, is_for, are_for}
use Rattle.exo_meaning.specs.Units.{share_nothing_written, is_call, is_write, is_empty, is_short}
use Rattle.exo_meaning.specs.Units.{is_block, is_statement}
use Rattle.exo_meaning.specs.Unseen.{in_control as uses, in_controls as all_use}
use Rattle.exo_meaning.specs.Unseen.{in_condition as tests, in_datum as reads}
use Rattle.exo_meaning.specs.Unseen.{in_coords as windows, in_argument as takes}
use Rattle.exo_meaning.specs.Unseen.{in_arguments as take}
use Rattle.exo_meaning.specs.Unseen.{in_statement as does, in_block as mentions}
use Rattle.exo_meaning.proofs.Frame.{or_parts}
use Rattle.meaning_laws.specs.Scoped.{has_binder, step_has_binder}
use Rattle.meaning_laws.specs.Sound.{binds}
use Rattle.meaning_laws.proofs.Apart.{binds_less}
use Rattle.meaning_laws.proofs.Substitute.{and_parts}
use Rattle.inplace_laws.specs.Uses.{in_control, in_controls, in_condition, in_datum, in_coords}
use Rattle.buffer_laws.specs.Staging.Converted.{indices_on, coords_on, name_on, converted}
use Rattle.buffer_laws.specs.Staging.Converted.{converted_datum, converted_argument}
use Rattle.buffer_laws.specs.Staging.Converted.{converted_arguments, converted_statement}
use Rattle.buffer_laws.specs.Stride.Strides.{argument_uses, arguments_use}
use Rattle.buffer_laws.specs.Stride.Strides.{uses_strides, step_uses_strides}
use Rattle.alloc_laws.proofs.OfStage.Names.{is_buffer_sort, is_buffer_in}
use Rattle.buffer_laws.specs.Staging.Alone.{has_root}
use Rattle.inplace_laws.specs.CallInPlace.{no_name}

two : (a b : Bool) → a ≡ false → b ≡ false → (a || b) ≡ false
two a b h k = ap₂ ◌||◌ h k

no_number : (o : Option Sort) → is_number o ≡ true → is_buffer_sort o ≡ true → ⊥
no_number None h k = true≢false (sym h)
no_number (Some (ControlName kind)) h k = true≢false (sym k)
no_number (Some (BufferName cell rank dense)) h k = true≢false (sym h)

no_flag : (o : Option Sort) → is_flag o ≡ true → is_buffer_sort o ≡ true → ⊥
no_flag None h k = true≢false (sym h)
no_flag (Some (ControlName kind)) h k = true≢false (sym k)
no_flag (Some (BufferName cell rank dense)) h k = true≢false (sym h)

module _ (fields : ℕ → Option Kind) (memories : ℕ) (callees : ℕ → Option Callee)
    (sees : ℕ → ℕ → Bool) (a x r : ℕ) (cs : List Coord) where
  abbrev hidden : ℕ → Bool
  hidden y = y == x

  abbrev strides : (ℕ → ℕ) → ℕ → Bool
  strides root = has_root root r

  -- ---- the window's own expressions

  module _ (other : (a == x) ≡ false) (free : windows hidden cs ≡ false) where
    name_gone : (y : ℕ) → hidden (name_on a x cs y) ≡ false
    name_gone y = by (y == x) refl
      where
        by : (t : Bool) → (y == x) ≡ t → (cond t a y == x) ≡ false
        by true h = other
        by false h = h

    indices_gone : (ds : List Coord) (is : List Control) → windows hidden ds ≡ false
        → all_use hidden is ≡ false
        → all_use hidden (indices_on ds is) ≡ false
    indices_gone [] is h k = refl
    indices_gone (At u ∷ ds) [] h k = refl
    indices_gone (Span u v ∷ ds) [] h k = refl
    indices_gone (At u ∷ ds) (e ∷ is) h k =
        indices_gone ds is (or_parts (uses hidden u) (windows hidden ds) h).1
        (or_parts (uses hidden e) (all_use hidden is) k).1
    indices_gone (Span u v ∷ ds) (e ∷ is) h k =
        let p = or_parts (uses hidden u) (uses hidden v || windows hidden ds) h in
        let q = or_parts (uses hidden v) (windows hidden ds) p.1 in
        let t = or_parts (uses hidden e) (all_use hidden is) k in
        two _ _ (two _ _ t.0 p.0) (indices_gone ds is q.1 t.1)

    coords_gone : (ds es : List Coord) → windows hidden ds ≡ false → windows hidden es ≡ false
        → windows hidden (coords_on ds es) ≡ false
    coords_gone [] es h k = refl
    coords_gone (At u ∷ ds) [] h k = refl
    coords_gone (Span u v ∷ ds) [] h k = refl
    coords_gone (At u ∷ ds) (At e ∷ es) h k =
        coords_gone ds es (or_parts (uses hidden u) (windows hidden ds) h).1
        (or_parts (uses hidden e) (windows hidden es) k).1
    coords_gone (At u ∷ ds) (Span e f ∷ es) h k =
        coords_gone ds es (or_parts (uses hidden u) (windows hidden ds) h).1
        (or_parts (uses hidden f) (windows hidden es)
        (or_parts (uses hidden e) (uses hidden f || windows hidden es) k).1).1
    coords_gone (Span u v ∷ ds) (At e ∷ es) h k =
        let p = or_parts (uses hidden u) (uses hidden v || windows hidden ds) h in
        let q = or_parts (uses hidden v) (windows hidden ds) p.1 in
        let t = or_parts (uses hidden e) (windows hidden es) k in
        two _ _ (two _ _ t.0 p.0) (coords_gone ds es q.1 t.1)
    coords_gone (Span u v ∷ ds) (Span e f ∷ es) h k =
        let p = or_parts (uses hidden u) (uses hidden v || windows hidden ds) h in
        let q = or_parts (uses hidden v) (windows hidden ds) p.1 in
        let t = or_parts (uses hidden e) (uses hidden f || windows hidden es) k in
        let s = or_parts (uses hidden f) (windows hidden es) t.1 in
        two _ _ (two _ _ t.0 p.0) (two _ _ (two _ _ s.0 p.0) (coords_gone ds es q.1 s.1))

    at_gone : (y : ℕ) (is : List Control) → all_use hidden is ≡ false
        → all_use hidden (cond (y == x) (indices_on cs is) is) ≡ false
    at_gone y is h = by (y == x)
      where
        by : (t : Bool) → all_use hidden (cond t (indices_on cs is) is) ≡ false
        by true = indices_gone cs is free h
        by false = h

    window_gone : (y : ℕ) (ds : List Coord) → windows hidden ds ≡ false
        → windows hidden (cond (y == x) (coords_on cs ds) ds) ≡ false
    window_gone y ds h = by (y == x)
      where
        by : (t : Bool) → windows hidden (cond t (coords_on cs ds) ds) ≡ false
        by true = coords_gone cs ds free h
        by false = h

    -- ---- expressions that keep the rules, where x is a buffer's name

    module _ (scope : Scope) (root : ℕ → ℕ) (buffer : is_buffer_in scope x ≡ true)
        (own : root x ≡ r) where
      other_name : (y : ℕ) → (hidden y ≡ true → ⊥) → hidden y ≡ false
      other_name y never = by (hidden y) refl
        where
          by : (t : Bool) → hidden y ≡ t → t ≡ false
          by true e = absurd (never e)
          by false e = refl

      number_name : (y : ℕ) → is_number (sort_in scope y) ≡ true → hidden y ≡ false
      number_name y k = other_name y (λ e. no_number (sort_in scope y) k
          (ap (is_buffer_in scope) (eqb-true y x e) ∙ buffer))

      flag_name : (y : ℕ) → is_flag (sort_in scope y) ≡ true → hidden y ≡ false
      flag_name y k = other_name y (λ e. no_flag (sort_in scope y) k
          (ap (is_buffer_in scope) (eqb-true y x e) ∙ buffer))

      stride_name : (y : ℕ) → strides root y ≡ false → hidden y ≡ false
      stride_name y k = other_name y (λ e. true≢false
          (sym (eq-eqb r (root y) (sym own ∙ ap root (sym (eqb-true y x e)))) ∙ k))

      control : (may : Reads) (e : Control) → is_control fields may scope e ≡ true
          → in_control no_name (strides root) e ≡ false
          → uses hidden e ≡ false
      control may (Lit n) k h = refl
      control may (Var y) k h = number_name y k
      control may (Field f) k h = refl
      control may (StrideOf y n) k h = stride_name y h
      control may (Neg e) k h = control may e k h
      control may (Add e f) k h =
          let p = and_parts (is_control fields may scope e) (is_control fields may scope f) k in
          let q = or_parts (in_control no_name (strides root) e) (in_control no_name (strides root) f) h in
          two _ _ (control may e p.0 q.0) (control may f p.1 q.1)
      control may (Sub e f) k h =
          let p = and_parts (is_control fields may scope e) (is_control fields may scope f) k in
          let q = or_parts (in_control no_name (strides root) e) (in_control no_name (strides root) f) h in
          two _ _ (control may e p.0 q.0) (control may f p.1 q.1)
      control may (Mul e f) k h =
          let sides = is_control fields may scope e && is_control fields may scope f in
          let p = and_parts (is_control fields may scope e) (is_control fields may scope f)
          (and_parts sides _ k).0 in
          let q = or_parts (in_control no_name (strides root) e) (in_control no_name (strides root) f) h in
          two _ _ (control may e p.0 q.0) (control may f p.1 q.1)
      control may (Div e n) k h = control may e (and_parts (is_control fields may scope e) _ k).0 h
      control may (Mod e n) k h = control may e (and_parts (is_control fields may scope e) _ k).0 h

      controls : (is : List Control) → are_controls fields plainly scope is ≡ true
          → in_controls no_name (strides root) is ≡ false
          → all_use hidden is ≡ false
      controls [] k h = refl
      controls (e ∷ is) k h =
          let p = and_parts (is_control fields plainly scope e) (are_controls fields plainly scope is) k in
          let q = or_parts (in_control no_name (strides root) e) (in_controls no_name (strides root) is) h in
          two _ _ (control plainly e p.0 q.0) (controls is p.1 q.1)

      compared : (may : Reads) (e f : Control)
          → (is_control fields may scope e && is_control fields may scope f) ≡ true
          → (in_control no_name (strides root) e || in_control no_name (strides root) f) ≡ false
          → (uses hidden e || uses hidden f) ≡ false
      compared may e f k h =
          let p = and_parts (is_control fields may scope e) (is_control fields may scope f) k in
          let q = or_parts (in_control no_name (strides root) e) (in_control no_name (strides root) f) h in
          two _ _ (control may e p.0 q.0) (control may f p.1 q.1)

      condition : (may : Reads) (c : Condition) → is_condition fields may scope c ≡ true
          → in_condition no_name (strides root) c ≡ false
          → tests hidden c ≡ false
      condition may True k h = refl
      condition may False k h = refl
      condition may (Flag y) k h = flag_name y k
      condition may (FieldFlag f) k h = refl
      condition may (Lt e f) k h = compared may e f k h
      condition may (Le e f) k h = compared may e f k h
      condition may (Gt e f) k h = compared may e f k h
      condition may (Ge e f) k h = compared may e f k h
      condition may (Eq e f) k h = compared may e f k h
      condition may (And c d) k h =
          let p = and_parts (is_condition fields may scope c) (is_condition fields may scope d) k in
          let q = or_parts (in_condition no_name (strides root) c) (in_condition no_name (strides root) d) h in
          two _ _ (condition may c p.0 q.0) (condition may d p.1 q.1)
      condition may (Or c d) k h =
          let p = and_parts (is_condition fields may scope c) (is_condition fields may scope d) k in
          let q = or_parts (in_condition no_name (strides root) c) (in_condition no_name (strides root) d) h in
          two _ _ (condition may c p.0 q.0) (condition may d p.1 q.1)

      datum : (d : Datum) → is_datum fields scope d ≡ true
          → in_datum no_name (strides root) d ≡ false
          → reads hidden (converted_datum a x cs d) ≡ false
      datum (Const n) k h = refl
      datum (Read y is) k h =
          two _ _ (name_gone y)
          (at_gone y is (controls is (and_parts (has_rank (length is) (sort_in scope y)) _ k).1 h))
      datum (Negated d) k h = datum d k h
      datum (Relu d) k h = datum d k h
      datum (Plus d e) k h =
          let p = and_parts (is_datum fields scope d) (is_datum fields scope e) k in
          let q = or_parts (in_datum no_name (strides root) d) (in_datum no_name (strides root) e) h in
          two _ _ (datum d p.0 q.0) (datum e p.1 q.1)
      datum (Minus d e) k h =
          let p = and_parts (is_datum fields scope d) (is_datum fields scope e) k in
          let q = or_parts (in_datum no_name (strides root) d) (in_datum no_name (strides root) e) h in
          two _ _ (datum d p.0 q.0) (datum e p.1 q.1)
      datum (Times d e) k h =
          let p = and_parts (is_datum fields scope d) (is_datum fields scope e) k in
          let q = or_parts (in_datum no_name (strides root) d) (in_datum no_name (strides root) e) h in
          two _ _ (datum d p.0 q.0) (datum e p.1 q.1)
      datum (Select d e f g) k h =
          let is = is_datum fields scope in
          let of = in_datum no_name (strides root) in
          let p = and_parts (is d && is e) (is f && is g) k in
          let q = and_parts (is d) (is e) p.0 in
          let s = and_parts (is f) (is g) p.1 in
          let m = or_parts (of d) (of e || (of f || of g)) h in
          let n = or_parts (of e) (of f || of g) m.1 in
          let o = or_parts (of f) (of g) n.1 in
          two _ _ (datum d q.0 m.0) (two _ _ (datum e q.1 n.0)
          (two _ _ (datum f s.0 o.0) (datum g s.1 o.1)))

      coords : (ds : List Coord) → list_all (is_coord fields scope) ds ≡ true
          → in_coords no_name (strides root) ds ≡ false
          → windows hidden ds ≡ false
      coords [] k h = refl
      coords (At e ∷ ds) k h =
          let p = and_parts (is_control fields plainly scope e) (list_all (is_coord fields scope) ds) k in
          let q = or_parts (in_control no_name (strides root) e) (in_coords no_name (strides root) ds) h in
          two _ _ (control plainly e p.0 q.0) (coords ds p.1 q.1)
      coords (Span e f ∷ ds) k h =
          let one = is_control fields plainly scope e && is_control fields plainly scope f in
          let p = and_parts one (list_all (is_coord fields scope) ds) k in
          let s = and_parts (is_control fields plainly scope e) (is_control fields plainly scope f) p.0 in
          let q = or_parts (in_control no_name (strides root) e)
          (in_control no_name (strides root) f || in_coords no_name (strides root) ds) h in
          let t = or_parts (in_control no_name (strides root) f) (in_coords no_name (strides root) ds) q.1 in
          two _ _ (control plainly e s.0 q.0) (two _ _ (control plainly f s.1 t.0) (coords ds p.1 t.1))

      window : (y : ℕ) (ds : List Coord) → is_window fields scope y ds ≡ true
          → in_coords no_name (strides root) ds ≡ false
          → (hidden (name_on a x cs y) || windows hidden (cond (y == x) (coords_on cs ds) ds)) ≡ false
      window y ds k h =
          two _ _ (name_gone y)
          (window_gone y ds (coords ds (and_parts (has_rank (length ds) (sort_in scope y)) _ k).1 h))

      kind : (may : Reads) (k : Kind) (g : Argument) → is_of_kind fields may scope k g ≡ true
          → argument_uses root r g ≡ false
          → takes hidden (converted_argument a x cs g) ≡ false
      kind may k (ControlArg e) ok h = control may e (and_parts (not (is_truth k)) _ ok).1 h
      kind may k (ConditionArg c) ok h = condition may c (and_parts (is_truth k) _ ok).1 h
      kind may k (Whole y) ok h = absurd (true≢false (sym ok))
      kind may k (Window y ds) ok h = absurd (true≢false (sym ok))

      argument : (k : ParamKind) (g : Argument) → is_for fields scope k g ≡ true
          → argument_uses root r g ≡ false
          → takes hidden (converted_argument a x cs g) ≡ false
      argument (ControlParam k) g ok h = kind with_both k g ok h
      argument (TensorParam c es memory) (ControlArg e) ok h = absurd (true≢false (sym ok))
      argument (TensorParam c es memory) (ConditionArg d) ok h = absurd (true≢false (sym ok))
      argument (TensorParam c es memory) (Whole y) ok h = name_gone y
      argument (TensorParam c es memory) (Window y ds) ok h =
          let p = and_parts (has_cell c (sort_in scope y)) _ ok in
          window y ds (and_parts (is_window fields scope y ds) _ p.1).0 h
      argument (WindowParam c es memory) (ControlArg e) ok h = absurd (true≢false (sym ok))
      argument (WindowParam c es memory) (ConditionArg d) ok h = absurd (true≢false (sym ok))
      argument (WindowParam c es memory) (Whole y) ok h = name_gone y
      argument (WindowParam c es memory) (Window y ds) ok h =
          let p = and_parts (has_cell c (sort_in scope y)) _ ok in
          window y ds (and_parts (is_window fields scope y ds) _ p.1).0 h

      arguments : (ps : List Param) (gs : List Argument) → are_for fields scope ps gs ≡ true
          → arguments_use root r gs ≡ false
          → take hidden (converted_arguments a x cs gs) ≡ false
      arguments ps [] ok h = refl
      arguments [] (g ∷ gs) ok h = absurd (true≢false (sym ok))
      arguments (p ∷ ps) (g ∷ gs) ok h =
          let q = and_parts (is_for fields scope p.kind g) (are_for fields scope ps gs) ok in
          let s = or_parts (argument_uses root r g) (arguments_use root r gs) h in
          two _ _ (argument p.kind g q.0 s.0) (arguments ps gs q.1 s.1)

      called : (o : Option Callee) (gs : List Argument) → is_call fields scope root o gs ≡ true
          → arguments_use root r gs ≡ false
          → take hidden (converted_arguments a x cs gs) ≡ false
      called None gs ok h = absurd (true≢false (sym ok))
      called (Some c) gs ok h =
          arguments c.procedure.params gs
          (and_parts (are_for fields scope c.procedure.params gs)
          (share_nothing_written fields c.writes root c.procedure.params gs) ok).0 h

      written : (o : Option Kind) (g : Argument) → is_write fields scope o g ≡ true
          → argument_uses root r g ≡ false
          → takes hidden (converted_argument a x cs g) ≡ false
      written None g ok h = absurd (true≢false (sym ok))
      written (Some k) g ok h = kind with_strides k g ok h

    -- ---- statements

    flipped : (y : ℕ) → (x == y) ≡ false → hidden y ≡ false
    flipped y h = by (y == x) refl
      where
        by : (t : Bool) → (y == x) ≡ t → t ≡ false
        by true e = absurd (true≢false (sym (eq-eqb x y (sym (eqb-true y x e))) ∙ h))
        by false e = refl

    sort_stays : (scope : Scope) (b : Statement) → binds b x ≡ false
        → is_buffer_in scope x ≡ true
        → is_buffer_in (scope_after b scope) x ≡ true
    sort_stays scope (Assign y is d) h k = k
    sort_stays scope (Reduce y is d) h k = k
    sort_stays scope (Config f g) h k = k
    sort_stays scope Pass h k = k
    sort_stays scope (If c b d) h k = k
    sort_stays scope (For i lo hi b) h k = k
    sort_stays scope (Alloc y c ds memory) h k =
        ap (λ t. is_buffer_sort (cond t (Some (BufferName c (length ds) true)) (sort_in scope x))) h ∙ k
    sort_stays scope (View w y ds) h k =
        ap (λ t. is_buffer_sort (cond t (Some (view_sort (sort_in scope y) (spans ds))) (sort_in scope x))) h
        ∙ k
    sort_stays scope (Call n gs) h k = k

    root_stays : (root : ℕ → ℕ) (b : Statement) → binds b x ≡ false → root x ≡ r
        → roots_after b root x ≡ r
    root_stays root (Assign y is d) h k = k
    root_stays root (Reduce y is d) h k = k
    root_stays root (Config f g) h k = k
    root_stays root Pass h k = k
    root_stays root (If c b d) h k = k
    root_stays root (For i lo hi b) h k = k
    root_stays root (Alloc y c ds memory) h k = ap (λ t. cond t y.id (root x)) h ∙ k
    root_stays root (View w y ds) h k = ap (λ t. cond t (root y) (root x)) h ∙ k
    root_stays root (Call n gs) h k = k

    mutual
      pub left_of_block : (scope : Scope) (root : ℕ → ℕ) (b : Block)
          → is_buffer_in scope x ≡ true → root x ≡ r → has_binder b x ≡ false
          → is_block fields memories callees scope root b ≡ true
          → uses_strides callees sees root b r ≡ false
          → mentions hidden (converted a x cs b) ≡ false
      left_of_block scope root end buffer own free_of ok h = refl
      left_of_block scope root (next d b) buffer own free_of ok h =
          let p = or_parts (step_has_binder d x) (has_binder b x) free_of in
          let q = and_parts (is_statement fields memories callees scope root d)
          (is_block fields memories callees (scope_after d scope) (roots_after d root) b) ok in
          let s = or_parts (step_uses_strides callees sees root d r)
          (uses_strides callees sees (roots_after d root) b r) h in
          let none = binds_less d x p.0 in
          two _ _ (left_of_step scope root d buffer own p.0 q.0 s.0)
          (left_of_block (scope_after d scope) (roots_after d root) b
          (sort_stays scope d none buffer) (root_stays root d none own) p.1 q.1 s.1)

      left_of_step : (scope : Scope) (root : ℕ → ℕ) (d : Statement)
          → is_buffer_in scope x ≡ true → root x ≡ r → step_has_binder d x ≡ false
          → is_statement fields memories callees scope root d ≡ true
          → step_uses_strides callees sees root d r ≡ false
          → does hidden (converted_statement a x cs d) ≡ false
      left_of_step scope root (Assign y is e) buffer own free_of ok h =
          let p = and_parts (is_access fields scope y is) (is_datum fields scope e) ok in
          let q = or_parts (in_controls no_name (strides root) is) (in_datum no_name (strides root) e) h in
          let k = (and_parts (has_rank (length is) (sort_in scope y)) _ p.0).1 in
          two _ _ (name_gone y) (two _ _ (at_gone y is (controls scope root buffer own is k q.0))
          (datum scope root buffer own e p.1 q.1))
      left_of_step scope root (Reduce y is e) buffer own free_of ok h =
          let p = and_parts (is_access fields scope y is) (is_datum fields scope e) ok in
          let q = or_parts (in_controls no_name (strides root) is) (in_datum no_name (strides root) e) h in
          let k = (and_parts (has_rank (length is) (sort_in scope y)) _ p.0).1 in
          two _ _ (name_gone y) (two _ _ (at_gone y is (controls scope root buffer own is k q.0))
          (datum scope root buffer own e p.1 q.1))
      left_of_step scope root (Config f g) buffer own free_of ok h =
          written scope root buffer own (fields f) g ok h
      left_of_step scope root Pass buffer own free_of ok h = refl
      left_of_step scope root (If c b d) buffer own free_of ok h =
          let is = is_block fields memories callees scope root in
          let p = and_parts (is_condition fields with_fields scope c)
          ((not (is_empty b) && (is_short b && is_short d)) && (is b && is d)) ok in
          let q = and_parts (not (is_empty b) && (is_short b && is_short d)) (is b && is d) p.1 in
          let s = and_parts (is b) (is d) q.1 in
          let m = or_parts (has_binder b x) (has_binder d x) free_of in
          let u = uses_strides callees sees root in
          let n = or_parts (in_condition no_name (strides root) c) (u b r || u d r) h in
          let o = or_parts (u b r) (u d r) n.1 in
          two _ _ (condition scope root buffer own with_fields c p.0 n.0)
          (two _ _ (left_of_block scope root b buffer own m.0 s.0 o.0)
          (left_of_block scope root d buffer own m.1 s.1 o.1))
      left_of_step scope root (For i lo hi b) buffer own free_of ok h =
          let within = with_name scope i (ControlName Index) in
          let is = is_block fields memories callees within root b in
          let ends = is_control fields plainly scope lo && is_control fields plainly scope hi in
          let p = and_parts (is_new scope i) (ends && ((not (is_empty b) && is_short b) && is)) ok in
          let q = and_parts ends ((not (is_empty b) && is_short b) && is) p.1 in
          let e = and_parts (is_control fields plainly scope lo) (is_control fields plainly scope hi) q.0 in
          let s = and_parts (not (is_empty b) && is_short b) is q.1 in
          let m = or_parts (x == i.id) (has_binder b x) free_of in
          let u = uses_strides callees sees root b r in
          let n = or_parts (in_control no_name (strides root) lo) (in_control no_name (strides root) hi || u) h in
          let o = or_parts (in_control no_name (strides root) hi) u n.1 in
          let there =
          ap (λ t. is_buffer_sort (cond t (Some (ControlName Index)) (sort_in scope x))) m.0 ∙ buffer in
          two _ _ (flipped i.id m.0) (two _ _ (control scope root buffer own plainly lo e.0 n.0)
          (two _ _ (control scope root buffer own plainly hi e.1 o.0)
          (left_of_block within root b there own m.1 s.1 o.1)))
      left_of_step scope root (Alloc y cell ds memory) buffer own free_of ok h =
          let p = and_parts (is_new scope y) _ ok in
          let q = and_parts (are_controls fields plainly scope ds) _ p.1 in
          two _ _ (flipped y.id free_of) (controls scope root buffer own ds q.0 h)
      left_of_step scope root (View w y ds) buffer own free_of ok h =
          let p = and_parts (is_new scope w) _ ok in
          let q = and_parts (is_window fields scope y ds) _ p.1 in
          two _ _ (flipped w.id free_of) (window scope root buffer own y ds q.0 h)
      left_of_step scope root (Call n gs) buffer own free_of ok h =
          called scope root buffer own (callees n) gs ok
          (or_parts (arguments_use root r gs) (call_has (callees n) (sees n) root r gs) h).0
