-- What a formed block uses.
use Rattle.std.proofs.Common.{◌≡◌, ℕ, ◌==◌, Bool, true, false, not, ◌&&◌, ◌||◌, true≢false, cond, nat_lt}
use Rattle.std.proofs.Common.{List, [], ◌∷◌, length, Option, Some, None, refl, sym, ap, ◌∙◌, eq-eqb}
use Rattle.exo_tree.specs.Tree.{Cell, Kind, Index, Binder, Control, Lit, Var, Field, StrideOf, Neg, Add, Sub}
use Rattle.exo_tree.specs.Tree.{Mul, Div, Mod, Condition, True, False, Flag, FieldFlag, Lt, Le, Gt, Ge, Eq, And, Or}
use Rattle.exo_tree.specs.Tree.{Datum, Const, Read, Negated, Relu, Plus, Minus, Times, Select, Coord, At, Span}
use Rattle.exo_tree.specs.Tree.{Argument, ControlArg, ConditionArg, Whole, Window, Param, ParamKind, ControlParam}
use Rattle.exo_tree.specs.Tree.{TensorParam, WindowParam, Procedure}
use Rattle.exo_tree.specs.Tree.{Statement, Assign, Reduce, Config, Pass, If, For, Alloc, View, Call}
use Rattle.exo_tree.specs.Tree.{Block, end, next, joined}
use Rattle.exo_tree.specs.Context.{Context, Here, After, InLoop, InThen, InElse, rest_of}
use Rattle.exo_meaning.specs.Calls.{Callee}
use Rattle.exo_meaning.specs.Inputs.{is_buffer_of}
use Rattle.exo_meaning.specs.Run.{roots_after, program_world}
use Rattle.exo_meaning.specs.Unseen.{in_control, in_controls, in_condition, in_datum, in_coords, in_argument}
use Rattle.exo_meaning.specs.Unseen.{in_arguments, in_statement, in_block}
use Rattle.exo_meaning.specs.Units.{Sort, ControlName, BufferName, Scope, sort_in, with_name, param_sort, scope_of}
use Rattle.exo_meaning.specs.Units.{Reads, plainly, with_fields, with_strides, with_both, is_of_literals, is_number}
use Rattle.exo_meaning.specs.Units.{is_flag, is_truth, has_dimension, has_rank, has_cell, is_dense, spans, view_sort}
use Rattle.exo_meaning.specs.Units.{is_empty, is_short, is_rank, field_kind, share_nothing_written}
use Rattle.exo_meaning.proofs.Frame.{or_parts}
use Rattle.meaning_laws.specs.Copies.{IsFree}
use Rattle.meaning_laws.specs.Sound.{binds, on_way}
use Rattle.meaning_laws.specs.Scoped.{has_binder, step_has_binder}
use Rattle.meaning_laws.proofs.Substitute.{and_parts}
use Rattle.step_rules.proofs.Found.{and_true}
use Rattle.meaning_laws.proofs.Facts.{or_left, or_right}
use Rattle.meaning_laws.proofs.Scoped.{both_false}
use Rattle.place_laws.specs.Scope.Roots.{own_roots_at}
use Rattle.tree_findings.specs.declared.findings.Findings.{Findings}
use Rattle.tree_findings.specs.Sizes.{is_small_control, is_small_condition, is_small_datum}
use Rattle.tree_findings.specs.Sizes.{deepest_coord}
use Rattle.tree_findings.specs.Classes.{both, all_of, rule, limit, use_of}
use Rattle.tree_findings.specs.Findings.{found_in_control, found_in_divisor, found_in_binder}
use Rattle.tree_findings.specs.Findings.{scope_behind, with_view}
use Rattle.tree_findings.specs.Findings.{findings_of_control, findings_of_controls}
use Rattle.tree_findings.specs.Findings.{found_in_condition}
use Rattle.tree_findings.specs.Findings.{findings_of_condition, findings_of_access, found_in_datum}
use Rattle.tree_findings.specs.Findings.{findings_of_datum}
use Rattle.tree_findings.specs.Findings.{findings_of_coord, findings_of_window, findings_of_kind}
use Rattle.tree_findings.specs.Findings.{findings_of_tensor}
use Rattle.tree_findings.specs.Findings.{findings_of_strided, findings_of_argument}
use Rattle.tree_findings.specs.Findings.{findings_of_arguments}
use Rattle.tree_findings.specs.Findings.{findings_of_call, findings_of_write}
use Rattle.tree_findings.specs.Findings.{findings_of_block, findings_of_statement}
use Rattle.step_rules.specs.Lawful.{found_scope_at, around}
use Rattle.step_rules.proofs.Formed.{HasShape, shape_parts}
use Rattle.call_laws.specs.Calls.Names.Scopes.{FormedMentions, FreeUnmentioned, scope_found}

-- ---- scopes

-- no hidden name is in scope
abbrev pub Lacks : (ℕ → Bool) → Scope → Type 0
Lacks hidden scope = (x : ℕ) → hidden x ≡ true → sort_in scope x ≡ None

in_scope : (suits : Option Sort → Bool) (o : Option Sort) → HasShape (use_of suits o) → o ≡ None → ⊥
in_scope suits None h e = absurd (true≢false (sym h))
in_scope suits (Some sort) h e = cc

no_rule : (f : Findings) → HasShape (both (rule false) f) → ⊥
no_rule f h = true≢false (sym (shape_parts (rule false) f h).0)

other_name : (scope : Scope) (b : Binder) (sort : Sort) (x : ℕ) → (x == b.id) ≡ false
    → sort_in (with_name scope b sort) x ≡ sort_in scope x
other_name scope b sort x h = ap (λ t. cond t (Some sort) (sort_in scope x)) h

view_behind : (scope : Scope) (w : Binder) (o : Option Sort) (rank x : ℕ) → (x == w.id) ≡ false
    → sort_in (with_view w o rank scope) x ≡ sort_in scope x
view_behind scope w None rank x h = refl
view_behind scope w (Some sort) rank x h = other_name scope w (view_sort (Some sort) rank) x h

behind_step : (a : Statement) (scope : Scope) (x : ℕ) → binds a x ≡ false
    → sort_in (scope_behind a scope) x ≡ sort_in scope x
behind_step (Assign y is e) scope x h = refl
behind_step (Reduce y is e) scope x h = refl
behind_step (Config f a) scope x h = refl
behind_step Pass scope x h = refl
behind_step (If c a b) scope x h = refl
behind_step (For i lo hi b) scope x h = refl
behind_step (Alloc y cell dims memory) scope x h =
    other_name scope y (BufferName cell (length dims) true) x h
behind_step (View w y coords) scope x h =
    view_behind scope w (sort_in scope y) (spans coords) x h
behind_step (Call k args) scope x h = refl

less : (a : Statement) (x : ℕ) → step_has_binder a x ≡ false → binds a x ≡ false
less (Assign y is e) x h = refl
less (Reduce y is e) x h = refl
less (Config f a) x h = refl
less Pass x h = refl
less (If c a b) x h = refl
less (For i lo hi b) x h = refl
less (Alloc y cell dims memory) x h = h
less (View w y coords) x h = h
less (Call n args) x h = refl

-- a hidden name is not one of those that are not hidden
not_it : (hidden own : ℕ → Bool) → ((x : ℕ) → own x ≡ true → hidden x ≡ false) → (x : ℕ)
    → hidden x ≡ true → own x ≡ false
not_it hidden own h x k = go (own x) refl
  where
    go : (t : Bool) → own x ≡ t → t ≡ false
    go true e = absurd (true≢false (sym k ∙ h x e))
    go false e = refl

module _ (fields : ℕ → Option Kind) (hidden : ℕ → Bool) where
  -- ---- expressions

  module _ (scope : Scope) (none : Lacks hidden scope) where
    name : (suits : Option Sort → Bool) (x : ℕ) → HasShape (use_of suits (sort_in scope x))
        → hidden x ≡ false
    name suits x h = go (hidden x) refl
      where
        go : (t : Bool) → hidden x ≡ t → t ≡ false
        go true e = absurd (in_scope suits (sort_in scope x) h (none x e))
        go false e = refl

    pub control : (may : Reads) (e : Control) → HasShape (found_in_control fields may scope e)
        → in_control hidden e ≡ false
    control may (Lit n) h = refl
    control may (Var x) h = name is_number x h
    control may (Field f) h = refl
    control may (StrideOf x k) h =
        name (has_dimension k) x
        (shape_parts (rule may.strides) (use_of (has_dimension k) (sort_in scope x)) h).1
    control may (Neg a) h = control may a h
    control may (Add a b) h =
        let p = shape_parts (found_in_control fields may scope a) (found_in_control fields may scope b) h in
        both_false (in_control hidden a) (in_control hidden b) (control may a p.0) (control may b p.1)
    control may (Sub a b) h =
        let p = shape_parts (found_in_control fields may scope a) (found_in_control fields may scope b) h in
        both_false (in_control hidden a) (in_control hidden b) (control may a p.0) (control may b p.1)
    control may (Mul a b) h =
        let sides = both (found_in_control fields may scope a) (found_in_control fields may scope b) in
        let p = shape_parts (found_in_control fields may scope a) (found_in_control fields may scope b)
        (shape_parts sides (rule (is_of_literals a || is_of_literals b)) h).0 in
        both_false (in_control hidden a) (in_control hidden b) (control may a p.0) (control may b p.1)
    control may (Div a c) h =
        control may a (shape_parts (found_in_control fields may scope a) (found_in_divisor c) h).0
    control may (Mod a c) h =
        control may a (shape_parts (found_in_control fields may scope a) (found_in_divisor c) h).0

    whole_control : (may : Reads) (e : Control) → HasShape (findings_of_control fields may scope e)
        → in_control hidden e ≡ false
    whole_control may e h =
        control may e
        (shape_parts (found_in_control fields may scope e) (limit (is_small_control e)) h).0

    controls : (may : Reads) (es : List Control) → HasShape (findings_of_controls fields may scope es)
        → in_controls hidden es ≡ false
    controls may [] h = refl
    controls may (e ∷ es) h =
        let p = shape_parts (findings_of_control fields may scope e)
        (findings_of_controls fields may scope es) h in
        both_false (in_control hidden e) (in_controls hidden es) (whole_control may e p.0)
        (controls may es p.1)

    sides : (may : Reads) (a b : Control)
        → HasShape (both (found_in_control fields may scope a) (found_in_control fields may scope b))
        → (in_control hidden a || in_control hidden b) ≡ false
    sides may a b h =
        let p = shape_parts (found_in_control fields may scope a) (found_in_control fields may scope b) h in
        both_false (in_control hidden a) (in_control hidden b) (control may a p.0) (control may b p.1)

    condition : (may : Reads) (c : Condition) → HasShape (found_in_condition fields may scope c)
        → in_condition hidden c ≡ false
    condition may True h = refl
    condition may False h = refl
    condition may (Flag x) h = name is_flag x h
    condition may (FieldFlag f) h = refl
    condition may (Lt a b) h = sides may a b h
    condition may (Le a b) h = sides may a b h
    condition may (Gt a b) h = sides may a b h
    condition may (Ge a b) h = sides may a b h
    condition may (Eq a b) h = sides may a b h
    condition may (And c d) h =
        let p = shape_parts (found_in_condition fields may scope c) (found_in_condition fields may scope d) h in
        both_false (in_condition hidden c) (in_condition hidden d) (condition may c p.0) (condition may d p.1)
    condition may (Or c d) h =
        let p = shape_parts (found_in_condition fields may scope c) (found_in_condition fields may scope d) h in
        both_false (in_condition hidden c) (in_condition hidden d) (condition may c p.0) (condition may d p.1)

    whole_condition : (may : Reads) (c : Condition) → HasShape (findings_of_condition fields may scope c)
        → in_condition hidden c ≡ false
    whole_condition may c h =
        condition may c
        (shape_parts (found_in_condition fields may scope c) (limit (is_small_condition c)) h).0

    access : (x : ℕ) (is : List Control) → HasShape (findings_of_access fields scope x is)
        → (hidden x || in_controls hidden is) ≡ false
    access x is h =
        let p = shape_parts (use_of (has_rank (length is)) (sort_in scope x))
        (findings_of_controls fields plainly scope is) h in
        both_false (hidden x) (in_controls hidden is) (name (has_rank (length is)) x p.0)
        (controls plainly is p.1)

    datum : (d : Datum) → HasShape (found_in_datum fields scope d) → in_datum hidden d ≡ false
    datum (Const n) h = refl
    datum (Read x is) h = access x is h
    datum (Negated a) h = datum a h
    datum (Relu a) h = datum a h
    datum (Plus a b) h =
        let p = shape_parts (found_in_datum fields scope a) (found_in_datum fields scope b) h in
        both_false (in_datum hidden a) (in_datum hidden b) (datum a p.0) (datum b p.1)
    datum (Minus a b) h =
        let p = shape_parts (found_in_datum fields scope a) (found_in_datum fields scope b) h in
        both_false (in_datum hidden a) (in_datum hidden b) (datum a p.0) (datum b p.1)
    datum (Times a b) h =
        let p = shape_parts (found_in_datum fields scope a) (found_in_datum fields scope b) h in
        both_false (in_datum hidden a) (in_datum hidden b) (datum a p.0) (datum b p.1)
    datum (Select a b c d) h =
        let p = shape_parts (both (found_in_datum fields scope a) (found_in_datum fields scope b))
        (both (found_in_datum fields scope c) (found_in_datum fields scope d)) h in
        let q = shape_parts (found_in_datum fields scope a) (found_in_datum fields scope b) p.0 in
        let r = shape_parts (found_in_datum fields scope c) (found_in_datum fields scope d) p.1 in
        both_false (in_datum hidden a) (in_datum hidden b || (in_datum hidden c || in_datum hidden d))
        (datum a q.0)
        (both_false (in_datum hidden b) (in_datum hidden c || in_datum hidden d) (datum b q.1)
        (both_false (in_datum hidden c) (in_datum hidden d) (datum c r.0) (datum d r.1)))

    store : (x : ℕ) (is : List Control) (e : Datum)
        → HasShape (both (findings_of_access fields scope x is) (findings_of_datum fields scope e))
        → (hidden x || (in_controls hidden is || in_datum hidden e)) ≡ false
    store x is e h =
        let p = shape_parts (findings_of_access fields scope x is) (findings_of_datum fields scope e) h in
        let q = or_parts (hidden x) (in_controls hidden is) (access x is p.0) in
        both_false (hidden x) (in_controls hidden is || in_datum hidden e) q.0
        (both_false (in_controls hidden is) (in_datum hidden e) q.1
        (datum e (shape_parts (found_in_datum fields scope e) (limit (is_small_datum e)) p.1).0))

    coords : (cs : List Coord) → HasShape (all_of (findings_of_coord fields scope) cs)
        → in_coords hidden cs ≡ false
    coords [] h = refl
    coords (At a ∷ cs) h =
        let p = shape_parts (findings_of_control fields plainly scope a)
        (all_of (findings_of_coord fields scope) cs) h in
        both_false (in_control hidden a) (in_coords hidden cs) (whole_control plainly a p.0)
        (coords cs p.1)
    coords (Span a b ∷ cs) h =
        let ends = both (findings_of_control fields plainly scope a)
        (findings_of_control fields plainly scope b) in
        let p = shape_parts ends (all_of (findings_of_coord fields scope) cs) h in
        let q = shape_parts (findings_of_control fields plainly scope a)
        (findings_of_control fields plainly scope b) p.0 in
        both_false (in_control hidden a) (in_control hidden b || in_coords hidden cs)
        (whole_control plainly a q.0)
        (both_false (in_control hidden b) (in_coords hidden cs) (whole_control plainly b q.1)
        (coords cs p.1))

    window : (x : ℕ) (cs : List Coord) → HasShape (findings_of_window fields scope x cs)
        → (hidden x || in_coords hidden cs) ≡ false
    window x cs h =
        let p = shape_parts (use_of (has_rank (length cs)) (sort_in scope x))
        (all_of (findings_of_coord fields scope) cs) h in
        both_false (hidden x) (in_coords hidden cs) (name (has_rank (length cs)) x p.0) (coords cs p.1)

    -- ---- arguments

    of_kind : (may : Reads) (kind : Kind) (a : Argument)
        → HasShape (findings_of_kind fields may scope kind a) → in_argument hidden a ≡ false
    of_kind may kind (ControlArg a) h =
        whole_control may a
        (shape_parts (rule (not (is_truth kind))) (findings_of_control fields may scope a) h).1
    of_kind may kind (ConditionArg c) h =
        whole_condition may c
        (shape_parts (rule (is_truth kind)) (findings_of_condition fields may scope c) h).1
    of_kind may kind (Whole x) h = absurd (true≢false (sym h))
    of_kind may kind (Window x cs) h = absurd (true≢false (sym h))

    tensor : (cell : Cell) (rank : ℕ) (a : Argument)
        → HasShape (findings_of_tensor fields scope cell rank a) → in_argument hidden a ≡ false
    tensor cell rank (ControlArg a) h = absurd (true≢false (sym h))
    tensor cell rank (ConditionArg c) h = absurd (true≢false (sym h))
    tensor cell rank (Whole x) h =
        name (λ s. has_cell cell s && (has_rank rank s && ((rank == 0) || is_dense s))) x h
    tensor cell rank (Window x cs) h =
        let seen = both (use_of (has_cell cell) (sort_in scope x)) (findings_of_window fields scope x cs) in
        let last =
        both (rule ((rank == 0) && ((spans cs == 0) && not (length cs == 0))))
        (limit (nat_lt (deepest_coord cs) 64)) in
        window x cs
        (shape_parts (use_of (has_cell cell) (sort_in scope x)) (findings_of_window fields scope x cs)
        (shape_parts seen last h).0).1

    strided : (cell : Cell) (rank : ℕ) (a : Argument)
        → HasShape (findings_of_strided fields scope cell rank a) → in_argument hidden a ≡ false
    strided cell rank (ControlArg a) h = absurd (true≢false (sym h))
    strided cell rank (ConditionArg c) h = absurd (true≢false (sym h))
    strided cell rank (Whole x) h = name (λ s. has_cell cell s && has_rank rank s) x h
    strided cell rank (Window x cs) h =
        let seen = both (use_of (has_cell cell) (sort_in scope x)) (findings_of_window fields scope x cs) in
        window x cs
        (shape_parts (use_of (has_cell cell) (sort_in scope x)) (findings_of_window fields scope x cs)
        (shape_parts seen (rule (rank == spans cs)) h).0).1

    argument : (kind : ParamKind) (a : Argument)
        → HasShape (findings_of_argument fields scope kind a) → in_argument hidden a ≡ false
    argument (ControlParam kind) a h = of_kind with_both kind a h
    argument (TensorParam cell dims memory) a h = tensor cell (length dims) a h
    argument (WindowParam cell dims memory) a h = strided cell (length dims) a h

    arguments : (ps : List Param) (args : List Argument)
        → HasShape (findings_of_arguments fields scope ps args) → in_arguments hidden args ≡ false
    arguments [] [] h = refl
    arguments [] (a ∷ args) h = absurd (true≢false (sym h))
    arguments (p ∷ ps) [] h = absurd (true≢false (sym h))
    arguments (p ∷ ps) (a ∷ args) h =
        let q = shape_parts (findings_of_argument fields scope p.kind a)
        (findings_of_arguments fields scope ps args) h in
        both_false (in_argument hidden a) (in_arguments hidden args) (argument p.kind a q.0)
        (arguments ps args q.1)

    call : (root : ℕ → ℕ) (o : Option Callee) (args : List Argument)
        → HasShape (findings_of_call fields scope root o args) → in_arguments hidden args ≡ false
    call root None args h = absurd (true≢false (sym h))
    call root (Some callee) args h =
        arguments callee.procedure.params args
        (shape_parts (findings_of_arguments fields scope callee.procedure.params args)
        (rule (share_nothing_written fields callee.writes root callee.procedure.params args)) h).0

    write : (o : Option Kind) (a : Argument) → HasShape (findings_of_write fields scope o a)
        → in_argument hidden a ≡ false
    write None a h = absurd (true≢false (sym h))
    write (Some kind) a h = of_kind with_strides kind a h

  -- ---- blocks

  module _ (memories : ℕ) (callees : ℕ → Option Callee) where
    abbrev found : Scope → (ℕ → ℕ) → Block → Findings
    found = findings_of_block fields memories callees

    abbrev found_step : Scope → (ℕ → ℕ) → Statement → Findings
    found_step = findings_of_statement fields memories callees

    still : (a : Statement) (scope : Scope) → Lacks hidden scope
        → ((x : ℕ) → step_has_binder a x ≡ true → hidden x ≡ false) → Lacks hidden (scope_behind a scope)
    still a scope none own x h =
        behind_step a scope x (less a x (not_it hidden (step_has_binder a) own x h)) ∙ none x h

    mutual
      pub block : (b : Block) (scope : Scope) (root : ℕ → ℕ) → HasShape (found scope root b)
          → Lacks hidden scope → ((x : ℕ) → has_binder b x ≡ true → hidden x ≡ false)
          → in_block hidden b ≡ false
      block end scope root h none own = refl
      block (next a b) scope root h none own =
          let p = shape_parts (found_step scope root a)
          (found (scope_behind a scope) (roots_after a root) b) h in
          let mine = λ (x : ℕ) (e : step_has_binder a x ≡ true).
          own x (or_left (step_has_binder a x) (has_binder b x) e) in
          both_false (in_statement hidden a) (in_block hidden b)
          (statement a scope root p.0 none mine)
          (block b (scope_behind a scope) (roots_after a root) p.1 (still a scope none mine)
          (λ x e. own x (or_right (step_has_binder a x) (has_binder b x) e)))

      statement : (a : Statement) (scope : Scope) (root : ℕ → ℕ) → HasShape (found_step scope root a)
          → Lacks hidden scope → ((x : ℕ) → step_has_binder a x ≡ true → hidden x ≡ false)
          → in_statement hidden a ≡ false
      statement (Assign x is e) scope root h none own = store scope none x is e h
      statement (Reduce x is e) scope root h none own = store scope none x is e h
      statement (Config f a) scope root h none own = write scope none (fields f) a h
      statement Pass scope root h none own = refl
      statement (If c a b) scope root h none own =
          let head = both (findings_of_condition fields with_fields scope c) (rule (not (is_empty a))) in
          let one = both (limit (is_short a)) (found scope root a) in
          let two = both (limit (is_short b)) (found scope root b) in
          let p = shape_parts head (both one two) h in
          let q = shape_parts (findings_of_condition fields with_fields scope c)
          (rule (not (is_empty a))) p.0 in
          let r = shape_parts one two p.1 in
          let u = shape_parts (limit (is_short a)) (found scope root a) r.0 in
          let v = shape_parts (limit (is_short b)) (found scope root b) r.1 in
          both_false (in_condition hidden c) (in_block hidden a || in_block hidden b)
          (whole_condition scope none with_fields c q.0)
          (both_false (in_block hidden a) (in_block hidden b)
          (block a scope root u.1 none (λ x e. own x (or_left (has_binder a x) (has_binder b x) e)))
          (block b scope root v.1 none (λ x e. own x (or_right (has_binder a x) (has_binder b x) e))))
      statement (For i lo hi b) scope root h none own =
          let inner = with_name scope i (ControlName Index) in
          let bounds =
          both (findings_of_control fields plainly scope lo) (findings_of_control fields plainly scope hi) in
          let last = both (limit (is_short b)) (found inner root b) in
          let p = shape_parts (both (found_in_binder scope i) (rule (not (is_empty b))))
          (both bounds last) h in
          let q = shape_parts bounds last p.1 in
          let r = shape_parts (findings_of_control fields plainly scope lo)
          (findings_of_control fields plainly scope hi) q.0 in
          let u = shape_parts (limit (is_short b)) (found inner root b) q.1 in
          let mine = own i.id (or_left (i.id == i.id) (has_binder b i.id) (eq-eqb i.id i.id refl)) in
          both_false (hidden i.id) (in_control hidden lo || (in_control hidden hi || in_block hidden b)) mine
          (both_false (in_control hidden lo) (in_control hidden hi || in_block hidden b)
          (whole_control scope none plainly lo r.0)
          (both_false (in_control hidden hi) (in_block hidden b) (whole_control scope none plainly hi r.1)
          (block b inner root u.1
          (λ x e. other_name scope i (ControlName Index) x
          (or_parts (x == i.id) (has_binder b x)
          (not_it hidden (λ y. (y == i.id) || has_binder b y) own x e)).0 ∙ none x e)
          (λ x e. own x (or_right (x == i.id) (has_binder b x) e)))))
      statement (Alloc x cell dims memory) scope root h none own =
          let head = both (found_in_binder scope x) (findings_of_controls fields plainly scope dims) in
          let last = both (limit (is_rank (length dims))) (rule (nat_lt memory memories)) in
          let p = shape_parts head last h in
          let q = shape_parts (found_in_binder scope x) (findings_of_controls fields plainly scope dims) p.0 in
          both_false (hidden x.id) (in_controls hidden dims) (own x.id (eq-eqb x.id x.id refl))
          (controls scope none plainly dims q.1)
      statement (View w x cs) scope root h none own =
          let last = both (findings_of_window fields scope x cs) (rule (nat_lt 0 (spans cs))) in
          let p = shape_parts (found_in_binder scope w) last h in
          let q = shape_parts (findings_of_window fields scope x cs) (rule (nat_lt 0 (spans cs))) p.1 in
          both_false (hidden w.id) (hidden x || in_coords hidden cs) (own w.id (eq-eqb w.id w.id refl))
          (window scope none x cs q.0)
      statement (Call k args) scope root h none own = call scope none root (callees k) args h

    -- ---- the first part of a block, and the rest

    shape_both : (f g : Findings) → HasShape f → HasShape g → HasShape (both f g)
    shape_both f g h k =
        let a = and_parts (f.rules && f.scope) true h in
        let b = and_parts (g.rules && g.scope) true k in
        let r = and_parts f.rules f.scope a.0 in
        let t = and_parts g.rules g.scope b.0 in
        and_true (and_true (and_true r.0 t.0) (and_true r.1 t.1)) refl

    first_shape : (b rest : Block) (scope : Scope) (root : ℕ → ℕ)
        → HasShape (found scope root (joined b rest)) → HasShape (found scope root b)
    first_shape end rest scope root h = refl
    first_shape (next a b) rest scope root h =
        let behind = scope_behind a scope in
        let p = shape_parts (found_step scope root a)
        (found behind (roots_after a root) (joined b rest)) h in
        shape_both (found_step scope root a) (found behind (roots_after a root) b) p.0
        (first_shape b rest behind (roots_after a root) p.1)

    rest_lacks : (b rest : Block) (scope : Scope) (root : ℕ → ℕ)
        → HasShape (found scope root (joined b rest)) → Lacks hidden scope
        → ((x : ℕ) → has_binder b x ≡ true → hidden x ≡ false)
        → ((x : ℕ) → has_binder rest x ≡ true → hidden x ≡ false)
        → in_block hidden rest ≡ false
    rest_lacks end rest scope root h none own other = block rest scope root h none other
    rest_lacks (next a b) rest scope root h none own other =
        let p = shape_parts (found_step scope root a)
        (found (scope_behind a scope) (roots_after a root) (joined b rest)) h in
        rest_lacks b rest (scope_behind a scope) (roots_after a root) p.1
        (still a scope none (λ x e. own x (or_left (step_has_binder a x) (has_binder b x) e)))
        (λ x e. own x (or_right (step_has_binder a x) (has_binder b x) e)) other

pub formed_mentions : FormedMentions
formed_mentions s b hidden formed none own =
    let unit = s.target.unit in
    let fields = field_kind unit.fields in
    let memories = length unit.memories in
    let callees = (program_world unit).callees in
    let scope = scope_found s in
    let root = own_roots_at (around s) in
    let rest = rest_of (around s) in (
      block fields hidden memories callees b scope root
          (first_shape fields hidden memories callees b rest scope root formed) none own,
      λ other. rest_lacks fields hidden memories callees b rest scope root formed none own other,
    )

-- ---- free names are not in scope

pub no_param_in_scope : (ps : List Param) (scope : Scope) (x : ℕ) → is_buffer_of x ps ≡ false
    → sort_in (scope_of scope ps) x ≡ sort_in scope x
no_param_in_scope [] scope x h = refl
no_param_in_scope (p ∷ ps) scope x h =
    let q = or_parts (x == p.binder.id) (is_buffer_of x ps) h in
    no_param_in_scope ps (with_name scope p.binder (param_sort p.kind)) x q.1
    ∙ other_name scope p.binder (param_sort p.kind) x q.0

at_hole : (c : Context) (scope : Scope) (x : ℕ) → on_way c x ≡ false
    → sort_in (found_scope_at c scope) x ≡ sort_in scope x
at_hole (Here rest) scope x h = refl
at_hole (After a c) scope x h =
    let p = or_parts (binds a x) (on_way c x) h in
    at_hole c (scope_behind a scope) x p.1 ∙ behind_step a scope x p.0
at_hole (InLoop i lo hi c rest) scope x h =
    let p = or_parts (x == i.id) (on_way c x) h in
    at_hole c (with_name scope i (ControlName Index)) x p.1
    ∙ other_name scope i (ControlName Index) x p.0
at_hole (InThen t c other rest) scope x h = at_hole c scope x h
at_hole (InElse t other c rest) scope x h = at_hole c scope x h

pub free_not_in_scope : (p : Procedure) (c : Context) (x : ℕ) → IsFree p c x
    → sort_in (found_scope_at c (scope_of [] p.params)) x ≡ None
free_not_in_scope p c x free =
    at_hole c (scope_of [] p.params) x free.1 ∙ no_param_in_scope p.params [] x free.0

pub free_unmentioned : FreeUnmentioned
free_unmentioned s b hidden formed free own =
    (formed_mentions s b hidden formed
    (λ x h. free_not_in_scope s.target.proc (around s) x (free x h)) own).0
