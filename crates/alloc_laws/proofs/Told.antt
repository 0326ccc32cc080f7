-- What the rules tell of a block where a name stands at a point: the name is a buffer's, so it is no
-- variable; and a point that reads a field or a stride stands nowhere.
use Rattle.std.proofs.Common.{◌≡◌, ◌==◌, ℕ, Bool, true, false, ◌||◌, not, cond, true≢false}
use Rattle.std.proofs.Common.{List, [], ◌∷◌, length, Option, Some, None, refl, sym, ap, ap₂, ◌∙◌}
use Rattle.std.proofs.Common.{subst, eqb-true, eq-eqb}
use Rattle.std.specs.Prelude.{nat_lt}
use Rattle.exo_tree.specs.Tree.{Kind, Cell, Index, Binder, Control, Lit, Var, Field, StrideOf, Neg}
use Rattle.exo_tree.specs.Tree.{Add, Sub, Mul, Div, Mod}
use Rattle.exo_tree.specs.Tree.{Condition, True, False, Flag, FieldFlag, Lt, Le, Gt, Ge, Eq, And}
use Rattle.exo_tree.specs.Tree.{Or}
use Rattle.exo_tree.specs.Tree.{Datum, Const, Read, Negated, Relu, Plus, Minus, Times, Select}
use Rattle.exo_tree.specs.Tree.{Coord, At, Span, Argument, ControlArg, ConditionArg, Whole, Window}
use Rattle.exo_tree.specs.Tree.{Statement, Assign, Reduce, Config, Pass, If, For, Alloc, View, Call}
use Rattle.exo_tree.specs.Tree.{Block, end, next, Param, ParamKind, ControlParam, TensorParam}
use Rattle.exo_tree.specs.Tree.{WindowParam}
use Rattle.exo_meaning.specs.Calls.{Callee}
use Rattle.exo_meaning.specs.Run.{roots_after}
use Rattle.exo_meaning.specs.Units.{is_empty, is_short, is_rank, has_cell, has_rank, with_both}
use Rattle.exo_meaning.specs.Units.{with_strides, with_fields, is_truth, is_number, is_flag, Sort}
use Rattle.exo_meaning.specs.Units.{ControlName, BufferName, Scope, sort_in, with_name, spans}
use Rattle.exo_meaning.specs.Units.{view_sort, Reads, plainly}
use Rattle.exo_meaning.specs.Unseen.{in_control as uses, in_controls as all_use}
use Rattle.exo_meaning.specs.Unseen.{in_condition as tests, in_datum as reads}
use Rattle.exo_meaning.specs.Unseen.{in_coords as windows, in_argument as takes}
use Rattle.exo_meaning.specs.Unseen.{in_arguments as take}
use Rattle.exo_meaning.specs.Unseen.{in_statement as does, in_block as mentions}
use Rattle.exo_meaning.proofs.Frame.{or_parts}
use Rattle.meaning_laws.specs.Scoped.{has_binder, step_has_binder}
use Rattle.meaning_laws.specs.Substitute.{is_plain}
use Rattle.inplace_laws.specs.Windows.{shifted, joined_coords, to_name, coords_at, in_control}
use Rattle.inplace_laws.specs.Windows.{in_controls, in_condition, in_datum, in_coords, in_argument}
use Rattle.inplace_laws.specs.Windows.{in_arguments, in_statement, in_block}
use Rattle.check_laws.proofs.OfFacts.Truths.{contrary}
use Rattle.tree_findings.specs.declared.findings.Findings.{Findings}
use Rattle.tree_findings.specs.Classes.{fine, both, rule, limit, use_of, all_of}
use Rattle.tree_findings.specs.Findings.{found_in_control, findings_of_control}
use Rattle.tree_findings.specs.Findings.{findings_of_controls}
use Rattle.tree_findings.specs.Findings.{found_in_condition, findings_of_condition}
use Rattle.tree_findings.specs.Findings.{findings_of_access}
use Rattle.tree_findings.specs.Findings.{found_in_datum, findings_of_coord, findings_of_window}
use Rattle.tree_findings.specs.Findings.{findings_of_kind, findings_of_argument}
use Rattle.tree_findings.specs.Findings.{findings_of_arguments}
use Rattle.tree_findings.specs.Findings.{findings_of_call, findings_of_write, findings_of_block}
use Rattle.tree_findings.specs.Findings.{findings_of_statement}
use Rattle.tree_findings.specs.Findings.{scope_behind, with_view, found_in_binder}
use Rattle.tree_findings.specs.Sizes.{is_small_control, is_small_condition}
use Rattle.step_rules.proofs.Formed.{HasShape, shape_parts}
use Rattle.loop_laws.proofs.Formed.{formed}
use Rattle.alloc_laws.proofs.Outside as point

-- what keeps the rules and the scope
pub record Kept (f : Findings) : Type 0 where
  pub shape : HasShape f

parts : {f g : Findings} → Kept (both f g) → Kept f × Kept g
parts {f} {g} k =
    let p = shape_parts f g k.shape in (record { shape = p.0 }, record { shape = p.1 })

never : {A : Type 0} → Kept (rule false) → A
never k = absurd (true≢false (sym k.shape))

two : (a b : Bool) → a ≡ false → b ≡ false → (a || b) ≡ false
two a b h k = ap₂ ◌||◌ h k

module _ (fields : ℕ → Option Kind) (memories : ℕ) (callees : ℕ → Option Callee) (x : ℕ)
    (e f : Control) (a : ℕ) (cs : List Coord) where
  abbrev hidden : ℕ → Bool
  hidden y = y == x

  -- the window that stands for the name in thought, and the points that do
  abbrev t : Argument
  t = Window a cs

  abbrev v : Argument
  v = Window x (At e ∷ [])

  abbrev w : Argument
  w = Window x (At f ∷ [])

  abbrev Bad : Type 0
  Bad = is_plain e ≡ false

  abbrev IsBuffer : Scope → Type 0
  IsBuffer scope =
      (cell : Cell) × (rank : ℕ) × (dense : Bool) × (sort_in scope x ≡ Some (BufferName cell rank dense))

  module _ (other : (a == x) ≡ false) (free : windows hidden cs ≡ false) where
    name_gone : (y : ℕ) → hidden (to_name x t y) ≡ false
    name_gone y = by (y == x) refl
      where
        by : (q : Bool) → (y == x) ≡ q → (cond q a y == x) ≡ false
        by true h = other
        by false h = h

    shifted_free : (ds : List Coord) (is : List Control) → windows hidden ds ≡ false
        → all_use hidden is ≡ false
        → all_use hidden (shifted ds is) ≡ false
    shifted_free [] is h k = k
    shifted_free (At c ∷ ds) is h k =
        let p = or_parts (uses hidden c) (windows hidden ds) h in
        two _ _ p.0 (shifted_free ds is p.1 k)
    shifted_free (Span c d ∷ ds) [] h k = refl
    shifted_free (Span c d ∷ ds) (i ∷ is) h k =
        let p = or_parts (uses hidden c) (uses hidden d || windows hidden ds) h in
        let q = or_parts (uses hidden d) (windows hidden ds) p.1 in
        let r = or_parts (uses hidden i) (all_use hidden is) k in
        two _ _ (two _ _ p.0 r.0) (shifted_free ds is q.1 r.1)

    joined_free : (ds es : List Coord) → windows hidden ds ≡ false → windows hidden es ≡ false
        → windows hidden (joined_coords ds es) ≡ false
    joined_free [] es h k = k
    joined_free (At c ∷ ds) es h k =
        let p = or_parts (uses hidden c) (windows hidden ds) h in
        two _ _ p.0 (joined_free ds es p.1 k)
    joined_free (Span c d ∷ ds) [] h k = refl
    joined_free (Span c d ∷ ds) (At i ∷ es) h k =
        let p = or_parts (uses hidden c) (uses hidden d || windows hidden ds) h in
        let q = or_parts (uses hidden d) (windows hidden ds) p.1 in
        let r = or_parts (uses hidden i) (windows hidden es) k in
        two _ _ (two _ _ p.0 r.0) (joined_free ds es q.1 r.1)
    joined_free (Span c d ∷ ds) (Span i j ∷ es) h k =
        let p = or_parts (uses hidden c) (uses hidden d || windows hidden ds) h in
        let q = or_parts (uses hidden d) (windows hidden ds) p.1 in
        let r = or_parts (uses hidden i) (uses hidden j || windows hidden es) k in
        let s = or_parts (uses hidden j) (windows hidden es) r.1 in
        two _ _ (two _ _ p.0 r.0) (two _ _ (two _ _ p.0 s.0) (joined_free ds es q.1 s.1))

    at_free : (y : ℕ) → windows hidden (coords_at x t y) ≡ false
    at_free y = by (y == x)
      where
        by : (q : Bool) → windows hidden (cond q cs []) ≡ false
        by true = free
        by false = refl

    -- ---- control expressions

    number_gone : (scope : Scope) (y : ℕ) → IsBuffer scope → (suits : Option Sort → Bool)
        → ((cell : Cell) (rank : ℕ) (dense : Bool) → suits (Some (BufferName cell rank dense)) ≡ false)
        → Kept (use_of suits (sort_in scope y))
        → hidden y ≡ false
    number_gone scope y buffer suits wrong k = by (y == x) refl
      where
        by : (q : Bool) → (y == x) ≡ q → q ≡ false
        by false h = refl
        by true h =
            let there =
            subst (λ o. Kept (use_of suits o)) (ap (sort_in scope) (eqb-true y x h) ∙ buffer.3) k in
            never (subst (λ r. Kept (rule r)) (wrong buffer.0 buffer.1 buffer.2) there)

    control_gone : (may : Reads) (scope : Scope) → IsBuffer scope → (c : Control)
        → Kept (found_in_control fields may scope (in_control x v c))
        → uses hidden (in_control x t c) ≡ false
    control_gone may scope buffer (Lit n) k = refl
    control_gone may scope buffer (Var y) k =
        number_gone scope y buffer is_number (λ cell rank dense. refl) k
    control_gone may scope buffer (Field g) k = refl
    control_gone may scope buffer (StrideOf y n) k = name_gone y
    control_gone may scope buffer (Neg c) k = control_gone may scope buffer c k
    control_gone may scope buffer (Add c d) k =
        let p = parts k in
        two _ _ (control_gone may scope buffer c p.0) (control_gone may scope buffer d p.1)
    control_gone may scope buffer (Sub c d) k =
        let p = parts k in
        two _ _ (control_gone may scope buffer c p.0) (control_gone may scope buffer d p.1)
    control_gone may scope buffer (Mul c d) k =
        let p = parts (parts k).0 in
        two _ _ (control_gone may scope buffer c p.0) (control_gone may scope buffer d p.1)
    control_gone may scope buffer (Div c n) k = control_gone may scope buffer c (parts k).0
    control_gone may scope buffer (Mod c n) k = control_gone may scope buffer c (parts k).0

    controls_gone : (scope : Scope) → IsBuffer scope → (is : List Control)
        → Kept (findings_of_controls fields plainly scope (in_controls x v is))
        → all_use hidden (in_controls x t is) ≡ false
    controls_gone scope buffer [] k = refl
    controls_gone scope buffer (c ∷ is) k =
        let p = parts k in
        two _ _ (control_gone plainly scope buffer c (parts p.0).0) (controls_gone scope buffer is p.1)

    condition_gone : (may : Reads) (scope : Scope) → IsBuffer scope → (c : Condition)
        → Kept (found_in_condition fields may scope (in_condition x v c))
        → tests hidden (in_condition x t c) ≡ false
    condition_gone may scope buffer True k = refl
    condition_gone may scope buffer False k = refl
    condition_gone may scope buffer (Flag y) k =
        number_gone scope y buffer is_flag (λ cell rank dense. refl) k
    condition_gone may scope buffer (FieldFlag g) k = refl
    condition_gone may scope buffer (Lt c d) k =
        let p = parts k in
        two _ _ (control_gone may scope buffer c p.0) (control_gone may scope buffer d p.1)
    condition_gone may scope buffer (Le c d) k =
        let p = parts k in
        two _ _ (control_gone may scope buffer c p.0) (control_gone may scope buffer d p.1)
    condition_gone may scope buffer (Gt c d) k =
        let p = parts k in
        two _ _ (control_gone may scope buffer c p.0) (control_gone may scope buffer d p.1)
    condition_gone may scope buffer (Ge c d) k =
        let p = parts k in
        two _ _ (control_gone may scope buffer c p.0) (control_gone may scope buffer d p.1)
    condition_gone may scope buffer (Eq c d) k =
        let p = parts k in
        two _ _ (control_gone may scope buffer c p.0) (control_gone may scope buffer d p.1)
    condition_gone may scope buffer (And c d) k =
        let p = parts k in
        two _ _ (condition_gone may scope buffer c p.0) (condition_gone may scope buffer d p.1)
    condition_gone may scope buffer (Or c d) k =
        let p = parts k in
        two _ _ (condition_gone may scope buffer c p.0) (condition_gone may scope buffer d p.1)

    coords_gone : (scope : Scope) → IsBuffer scope → (ds : List Coord)
        → Kept (all_of (findings_of_coord fields scope) (in_coords x v ds))
        → windows hidden (in_coords x t ds) ≡ false
    coords_gone scope buffer [] k = refl
    coords_gone scope buffer (At c ∷ ds) k =
        let p = parts k in
        two _ _ (control_gone plainly scope buffer c (parts p.0).0) (coords_gone scope buffer ds p.1)
    coords_gone scope buffer (Span c d ∷ ds) k =
        let p = parts k in
        let q = parts p.0 in
        two _ _ (control_gone plainly scope buffer c (parts q.0).0)
        (two _ _ (control_gone plainly scope buffer d (parts q.1).0) (coords_gone scope buffer ds p.1))

    -- ---- uses of the name

    no_point : {A : Type 0} (scope : Scope) → Kept (findings_of_control fields plainly scope e)
        → Bad → A
    no_point scope k bad =
        let p : Kept (found_in_control fields plainly scope e) × Kept (limit (is_small_control e)) =
        parts k in
        absurd (true≢false (sym (formed fields scope e p.0.shape).plain ∙ bad))

    access_told : (scope : Scope) → IsBuffer scope → (y : ℕ) (is : List Control)
        → Kept (findings_of_access fields scope (to_name x v y)
        (shifted (coords_at x v y) (in_controls x v is)))
        → (all_use hidden (shifted (coords_at x t y) (in_controls x t is)) ≡ false)
        × (Bad → shifted (coords_at x v y) (in_controls x v is)
        ≡ shifted (coords_at x w y) (in_controls x w is))
    access_told scope buffer y is k = by (y == x) (parts k).1
      where
        by : (q : Bool)
            → Kept (findings_of_controls fields plainly scope
            (shifted (cond q (At e ∷ []) []) (in_controls x v is)))
            → (all_use hidden (shifted (cond q cs []) (in_controls x t is)) ≡ false)
            × (Bad → shifted (cond q (At e ∷ []) []) (in_controls x v is)
            ≡ shifted (cond q (At f ∷ []) []) (in_controls x w is))
        by true k =
            let p = parts k in (
              shifted_free cs (in_controls x t is) free (controls_gone scope buffer is p.1),
              λ bad. no_point scope p.0 bad,
            )
        by false k = (controls_gone scope buffer is k, λ bad. point.controls x e f is)

    window_told : (scope : Scope) → IsBuffer scope → (y : ℕ) (ds : List Coord)
        → Kept (findings_of_window fields scope (to_name x v y)
        (joined_coords (coords_at x v y) (in_coords x v ds)))
        → (windows hidden (joined_coords (coords_at x t y) (in_coords x t ds)) ≡ false)
        × (Bad → joined_coords (coords_at x v y) (in_coords x v ds)
        ≡ joined_coords (coords_at x w y) (in_coords x w ds))
    window_told scope buffer y ds k = by (y == x) (parts k).1
      where
        by : (q : Bool)
            → Kept (all_of (findings_of_coord fields scope)
            (joined_coords (cond q (At e ∷ []) []) (in_coords x v ds)))
            → (windows hidden (joined_coords (cond q cs []) (in_coords x t ds)) ≡ false)
            × (Bad → joined_coords (cond q (At e ∷ []) []) (in_coords x v ds)
            ≡ joined_coords (cond q (At f ∷ []) []) (in_coords x w ds))
        by true k =
            let p = parts k in (
              joined_free cs (in_coords x t ds) free (coords_gone scope buffer ds p.1),
              λ bad. no_point scope p.0 bad,
            )
        by false k = (coords_gone scope buffer ds k, λ bad. point.coords x e f ds)

    abbrev DatumTold : Datum → Type 0
    DatumTold d = (reads hidden (in_datum x t d) ≡ false) × (Bad → in_datum x v d ≡ in_datum x w d)

    both_told : (make : Datum → Datum → Datum) (b c : Datum)
        → ((y z : Datum) → reads hidden (make y z) ≡ (reads hidden y || reads hidden z))
        → DatumTold b → DatumTold c
        → (reads hidden (make (in_datum x t b) (in_datum x t c)) ≡ false)
        × (Bad → make (in_datum x v b) (in_datum x v c) ≡ make (in_datum x w b) (in_datum x w c))
    both_told make b c m h k =
        (m (in_datum x t b) (in_datum x t c) ∙ two _ _ h.0 k.0, λ bad. ap₂ make (h.1 bad) (k.1 bad))

    datum_told : (scope : Scope) → IsBuffer scope → (d : Datum)
        → Kept (found_in_datum fields scope (in_datum x v d))
        → DatumTold d
    datum_told scope buffer (Const n) k = (refl, λ bad. refl)
    datum_told scope buffer (Read y is) k =
        let p = access_told scope buffer y is k in
        (two _ _ (name_gone y) p.0, λ bad. ap (Read (to_name x v y)) (p.1 bad))
    datum_told scope buffer (Negated b) k =
        let p = datum_told scope buffer b k in (p.0, λ bad. ap Negated (p.1 bad))
    datum_told scope buffer (Relu b) k =
        let p = datum_told scope buffer b k in (p.0, λ bad. ap Relu (p.1 bad))
    datum_told scope buffer (Plus b c) k =
        let p = parts k in
        both_told Plus b c (λ y z. refl) (datum_told scope buffer b p.0) (datum_told scope buffer c p.1)
    datum_told scope buffer (Minus b c) k =
        let p = parts k in
        both_told Minus b c (λ y z. refl) (datum_told scope buffer b p.0) (datum_told scope buffer c p.1)
    datum_told scope buffer (Times b c) k =
        let p = parts k in
        both_told Times b c (λ y z. refl) (datum_told scope buffer b p.0) (datum_told scope buffer c p.1)
    datum_told scope buffer (Select b c d g) k =
        let p = parts k in
        let q = parts p.0 in
        let r = parts p.1 in
        let m = datum_told scope buffer b q.0 in
        let n = datum_told scope buffer c q.1 in
        let o = datum_told scope buffer d r.0 in
        let u = datum_told scope buffer g r.1 in (
          two _ _ m.0 (two _ _ n.0 (two _ _ o.0 u.0)),
          λ bad. ap₂ (λ (l h : Datum × Datum). Select l.0 l.1 h.0 h.1)
              (ap₂ (λ (y z : Datum). (y, z)) (m.1 bad) (n.1 bad))
              (ap₂ (λ (y z : Datum). (y, z)) (o.1 bad) (u.1 bad)),
        )

    -- ---- arguments

    abbrev ArgumentTold : Argument → Type 0
    ArgumentTold g =
        (takes hidden (in_argument x t g) ≡ false) × (Bad → in_argument x v g ≡ in_argument x w g)

    kind_told : (may : Reads) (scope : Scope) → IsBuffer scope → (kind : Kind) (g : Argument)
        → Kept (findings_of_kind fields may scope kind (in_argument x v g))
        → ArgumentTold g
    kind_told may scope buffer kind (ControlArg c) k =
        let p : Kept (rule (not (is_truth kind))) × Kept (findings_of_control fields may scope (in_control x v c)) =
        parts k in
        let q : Kept (found_in_control fields may scope (in_control x v c))
        × Kept (limit (is_small_control (in_control x v c))) = parts p.1 in
        (control_gone may scope buffer c q.0, λ bad. ap ControlArg (point.control x e f c))
    kind_told may scope buffer kind (ConditionArg c) k =
        let p : Kept (rule (is_truth kind)) × Kept (findings_of_condition fields may scope (in_condition x v c)) =
        parts k in
        let q : Kept (found_in_condition fields may scope (in_condition x v c))
        × Kept (limit (is_small_condition (in_condition x v c))) = parts p.1 in
        (condition_gone may scope buffer c q.0, λ bad. ap ConditionArg (point.condition x e f c))
    kind_told may scope buffer kind (Whole y) k = by (y == x) k
      where
        by : {A : Type 0} (q : Bool)
            → Kept (findings_of_kind fields may scope kind (cond q v (Whole y))) → A
        by true k = never k
        by false k = never k
    kind_told may scope buffer kind (Window y ds) k = never k

    pointed : {A : Type 0} (scope : Scope) → Kept (findings_of_window fields scope x (At e ∷ []))
        → Bad → A
    pointed scope k bad =
        let p : Kept (use_of (has_rank 1) (sort_in scope x))
        × Kept (all_of (findings_of_coord fields scope) (At e ∷ [])) = parts k in
        let q : Kept (findings_of_control fields plainly scope e) × Kept fine = parts p.1 in
        no_point scope q.0 bad

    passed_at : {A : Type 0} (scope : Scope) (kind : ParamKind)
        → Kept (findings_of_argument fields scope kind v) → Bad → A
    passed_at scope (ControlParam kind) k bad = never k
    passed_at scope (TensorParam cell dims memory) k bad =
        let p = parts k in
        let q : Kept (use_of (has_cell cell) (sort_in scope x)) × Kept (findings_of_window fields scope x (At e ∷ [])) =
        parts p.0 in
        pointed scope q.1 bad
    passed_at scope (WindowParam cell dims memory) k bad =
        let p = parts k in
        let q : Kept (use_of (has_cell cell) (sort_in scope x)) × Kept (findings_of_window fields scope x (At e ∷ [])) =
        parts p.0 in
        pointed scope q.1 bad

    -- a whole name, or its point
    whole_told : (scope : Scope) (kind : ParamKind) (y : ℕ)
        → Kept (findings_of_argument fields scope kind (in_argument x v (Whole y)))
        → ArgumentTold (Whole y)
    whole_told scope kind y k = by (y == x) refl k
      where
        by : (q : Bool) → (y == x) ≡ q
            → Kept (findings_of_argument fields scope kind (cond q v (Whole y)))
            → (takes hidden (cond q t (Whole y)) ≡ false)
            × (Bad → cond q v (Whole y) ≡ cond q w (Whole y))
        by true h k = (two _ _ other free, λ bad. passed_at scope kind k bad)
        by false h k = (h, λ bad. refl)

    view_told : (scope : Scope) → IsBuffer scope → (y : ℕ) (ds : List Coord)
        → Kept (findings_of_window fields scope (to_name x v y)
        (joined_coords (coords_at x v y) (in_coords x v ds)))
        → ArgumentTold (Window y ds)
    view_told scope buffer y ds k =
        let p = window_told scope buffer y ds k in
        (two _ _ (name_gone y) p.0, λ bad. ap (Window (to_name x v y)) (p.1 bad))

    argument_told : (scope : Scope) → IsBuffer scope → (kind : ParamKind) (g : Argument)
        → Kept (findings_of_argument fields scope kind (in_argument x v g))
        → ArgumentTold g
    argument_told scope buffer (ControlParam kind) g k = kind_told with_both scope buffer kind g k
    argument_told scope buffer (TensorParam cell dims memory) (ControlArg c) k = never k
    argument_told scope buffer (TensorParam cell dims memory) (ConditionArg c) k = never k
    argument_told scope buffer (TensorParam cell dims memory) (Whole y) k =
        whole_told scope (TensorParam cell dims memory) y k
    argument_told scope buffer (TensorParam cell dims memory) (Window y ds) k =
        view_told scope buffer y ds (parts (parts k).0).1
    argument_told scope buffer (WindowParam cell dims memory) (ControlArg c) k = never k
    argument_told scope buffer (WindowParam cell dims memory) (ConditionArg c) k = never k
    argument_told scope buffer (WindowParam cell dims memory) (Whole y) k =
        whole_told scope (WindowParam cell dims memory) y k
    argument_told scope buffer (WindowParam cell dims memory) (Window y ds) k =
        view_told scope buffer y ds (parts (parts k).0).1

    arguments_told : (scope : Scope) → IsBuffer scope → (ps : List Param) (gs : List Argument)
        → Kept (findings_of_arguments fields scope ps (in_arguments x v gs))
        → (take hidden (in_arguments x t gs) ≡ false) × (Bad → in_arguments x v gs ≡ in_arguments x w gs)
    arguments_told scope buffer [] [] k = (refl, λ bad. refl)
    arguments_told scope buffer [] (g ∷ gs) k = never k
    arguments_told scope buffer (p ∷ ps) [] k = never k
    arguments_told scope buffer (p ∷ ps) (g ∷ gs) k =
        let q = parts k in
        let m = argument_told scope buffer p.kind g q.0 in
        let n = arguments_told scope buffer ps gs q.1 in
        (two _ _ m.0 n.0, λ bad. ap₂ ◌∷◌ (m.1 bad) (n.1 bad))

    call_told : (scope : Scope) (root : ℕ → ℕ) → IsBuffer scope → (callee : Option Callee)
        (gs : List Argument)
        → Kept (findings_of_call fields scope root callee (in_arguments x v gs))
        → (take hidden (in_arguments x t gs) ≡ false) × (Bad → in_arguments x v gs ≡ in_arguments x w gs)
    call_told scope root buffer None gs k = never k
    call_told scope root buffer (Some callee) gs k =
        arguments_told scope buffer callee.procedure.params gs (parts k).0

    write_told : (scope : Scope) → IsBuffer scope → (kind : Option Kind) (g : Argument)
        → Kept (findings_of_write fields scope kind (in_argument x v g))
        → ArgumentTold g
    write_told scope buffer None g k = never k
    write_told scope buffer (Some kind) g k = kind_told with_strides scope buffer kind g k

    -- ---- statements

    other_name : (scope : Scope) (b : Binder) (sort : Sort) → (x == b.id) ≡ false → IsBuffer scope
        → IsBuffer (with_name scope b sort)
    other_name scope b sort h buffer =
        (buffer.0, buffer.1, buffer.2, ap (λ q. cond q (Some sort) (sort_in scope x)) h ∙ buffer.3)

    view_behind : (scope : Scope) (u : Binder) (o : Option Sort) (rank : ℕ) → (x == u.id) ≡ false
        → IsBuffer scope → IsBuffer (with_view u o rank scope)
    view_behind scope u None rank h buffer = buffer
    view_behind scope u (Some sort) rank h buffer =
        other_name scope u (view_sort (Some sort) rank) h buffer

    behind : (b : Statement) (scope : Scope) → step_has_binder b x ≡ false → IsBuffer scope
        → IsBuffer (scope_behind (in_statement x v b) scope)
    behind (Assign y is d) scope h buffer = buffer
    behind (Reduce y is d) scope h buffer = buffer
    behind (Config g c) scope h buffer = buffer
    behind Pass scope h buffer = buffer
    behind (If c b d) scope h buffer = buffer
    behind (For i lo hi b) scope h buffer = buffer
    behind (Alloc y cell ds memory) scope h buffer =
        other_name scope y (BufferName cell (length (in_controls x v ds)) true) h buffer
    behind (View u y ds) scope h buffer =
        view_behind scope u (sort_in scope (to_name x v y))
        (spans (joined_coords (coords_at x v y) (in_coords x v ds))) h buffer
    behind (Call n gs) scope h buffer = buffer

    abbrev BlockTold : Block → Type 0
    BlockTold b = (mentions hidden (in_block x t b) ≡ false) × (Bad → in_block x v b ≡ in_block x w b)

    abbrev StatementTold : Statement → Type 0
    StatementTold b =
        (does hidden (in_statement x t b) ≡ false) × (Bad → in_statement x v b ≡ in_statement x w b)

    self_other : (y : ℕ) → (x == y) ≡ false → (y == x) ≡ false
    self_other y h = contrary (y == x) (λ k. true≢false (sym (eq-eqb x y (sym (eqb-true y x k))) ∙ h))

    abbrev found : Scope → (ℕ → ℕ) → Block → Findings
    found = findings_of_block fields memories callees

    mutual
      pub block_told : (b : Block) (scope : Scope) (root : ℕ → ℕ) → IsBuffer scope
          → has_binder b x ≡ false
          → Kept (findings_of_block fields memories callees scope root (in_block x v b))
          → BlockTold b
      block_told end scope root buffer h k = (refl, λ bad. refl)
      block_told (next b rest) scope root buffer h k =
          let p = parts k in
          let q = or_parts (step_has_binder b x) (has_binder rest x) h in
          let m = statement_told b scope root buffer q.0 p.0 in
          let n =
          block_told rest (scope_behind (in_statement x v b) scope) (roots_after (in_statement x v b) root)
          (behind b scope q.0 buffer) q.1 p.1 in
          (two _ _ m.0 n.0, λ bad. ap₂ next (m.1 bad) (n.1 bad))

      statement_told : (b : Statement) (scope : Scope) (root : ℕ → ℕ) → IsBuffer scope
          → step_has_binder b x ≡ false
          → Kept (findings_of_statement fields memories callees scope root (in_statement x v b))
          → StatementTold b
      statement_told (Assign y is d) scope root buffer h k =
          let p = parts k in
          let m = access_told scope buffer y is p.0 in
          let n = datum_told scope buffer d (parts p.1).0 in (
            two _ _ (name_gone y) (two _ _ m.0 n.0),
            λ bad. ap₂ (Assign (to_name x v y)) (m.1 bad) (n.1 bad),
          )
      statement_told (Reduce y is d) scope root buffer h k =
          let p = parts k in
          let m = access_told scope buffer y is p.0 in
          let n = datum_told scope buffer d (parts p.1).0 in (
            two _ _ (name_gone y) (two _ _ m.0 n.0),
            λ bad. ap₂ (Reduce (to_name x v y)) (m.1 bad) (n.1 bad),
          )
      statement_told (Config g c) scope root buffer h k =
          let p = write_told scope buffer (fields g) c k in (p.0, λ bad. ap (Config g) (p.1 bad))
      statement_told Pass scope root buffer h k = (refl, λ bad. refl)
      statement_told (If c b d) scope root buffer h k =
          let made = in_block x v b in
          let rest = in_block x v d in
          let p : Kept (both (findings_of_condition fields with_fields scope (in_condition x v c))
          (rule (not (is_empty made))))
          × Kept (both (both (limit (is_short made)) (found scope root made))
          (both (limit (is_short rest)) (found scope root rest))) = parts k in
          let q : Kept (both (limit (is_short made)) (found scope root made))
          × Kept (both (limit (is_short rest)) (found scope root rest)) = parts p.1 in
          let one : Kept (limit (is_short made)) × Kept (found scope root made) = parts q.0 in
          let other : Kept (limit (is_short rest)) × Kept (found scope root rest) = parts q.1 in
          let head : Kept (findings_of_condition fields with_fields scope (in_condition x v c))
          × Kept (rule (not (is_empty made))) = parts p.0 in
          let test : Kept (found_in_condition fields with_fields scope (in_condition x v c))
          × Kept (limit (is_small_condition (in_condition x v c))) = parts head.0 in
          let r = or_parts (has_binder b x) (has_binder d x) h in
          let m = block_told b scope root buffer r.0 one.1 in
          let n = block_told d scope root buffer r.1 other.1 in (
            two _ _ (condition_gone with_fields scope buffer c test.0) (two _ _ m.0 n.0),
            λ bad. ap₂ (λ z (y : Block × Block). If z y.0 y.1) (point.condition x e f c)
                (ap₂ (λ (y z : Block). (y, z)) (m.1 bad) (n.1 bad)),
          )
      statement_told (For i lo hi b) scope root buffer h k =
          let made = in_block x v b in
          let within = with_name scope i (ControlName Index) in
          let low = in_control x v lo in
          let high = in_control x v hi in
          let ends = both (findings_of_control fields plainly scope low)
          (findings_of_control fields plainly scope high) in
          let last = both (limit (is_short made)) (found within root made) in
          let p : Kept (both (found_in_binder scope i) (rule (not (is_empty made)))) × Kept (both ends last) =
          parts k in
          let q : Kept ends × Kept last = parts p.1 in
          let bounds : Kept (findings_of_control fields plainly scope low)
          × Kept (findings_of_control fields plainly scope high) = parts q.0 in
          let one : Kept (found_in_control fields plainly scope low) × Kept (limit (is_small_control low)) =
          parts bounds.0 in
          let other : Kept (found_in_control fields plainly scope high) × Kept (limit (is_small_control high)) =
          parts bounds.1 in
          let body : Kept (limit (is_short made)) × Kept (found within root made) = parts q.1 in
          let r = or_parts (x == i.id) (has_binder b x) h in
          let m =
          block_told b within root (other_name scope i (ControlName Index) r.0 buffer) r.1 body.1 in (
            two _ _ (self_other i.id r.0) (two _ _ (control_gone plainly scope buffer lo one.0)
                (two _ _ (control_gone plainly scope buffer hi other.0) m.0)),
            λ bad. ap₂ (λ (z : Control × Control) y. For i z.0 z.1 y)
                (ap₂ (λ (y z : Control). (y, z)) (point.control x e f lo) (point.control x e f hi)) (m.1 bad),
          )
      statement_told (Alloc y cell ds memory) scope root buffer h k =
          let sizes = findings_of_controls fields plainly scope (in_controls x v ds) in
          let p : Kept (both (found_in_binder scope y) sizes)
          × Kept (both (limit (is_rank (length (in_controls x v ds)))) (rule (nat_lt memory memories))) =
          parts k in
          let q : Kept (found_in_binder scope y) × Kept sizes = parts p.0 in (
            two _ _ (self_other y.id h) (controls_gone scope buffer ds q.1),
            λ bad. ap (λ z. Alloc y cell z memory) (point.controls x e f ds),
          )
      statement_told (View u y ds) scope root buffer h k =
          let made = joined_coords (coords_at x v y) (in_coords x v ds) in
          let all = findings_of_window fields scope (to_name x v y) made in
          let q : Kept (found_in_binder scope u) × Kept (both all (rule (nat_lt 0 (spans made)))) = parts k in
          let r : Kept all × Kept (rule (nat_lt 0 (spans made))) = parts q.1 in
          let p = window_told scope buffer y ds r.0 in (
            two _ _ (self_other u.id h) (two _ _ (name_gone y) p.0),
            λ bad. ap (View u (to_name x v y)) (p.1 bad),
          )
      statement_told (Call n gs) scope root buffer h k =
          let p = call_told scope root buffer (callees n) gs k in (p.0, λ bad. ap (Call n) (p.1 bad))
