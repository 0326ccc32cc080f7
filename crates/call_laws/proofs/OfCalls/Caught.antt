-- Nothing in a callee with fresh ids catches what stands for a parameter.
use Rattle.std.proofs.Common.{◌≡◌, ℕ, ◌==◌, pos, Bool, true, false, ◌||◌, true≢false, cond, if◌then◌else◌}
use Rattle.std.proofs.Common.{List, [], ◌∷◌, map, Option, Some, refl, sym, ap, ap₂, ◌∙◌, eqb-true, eq-eqb}
use Rattle.std.specs.Bool.{⊤}
use Rattle.exo_tree.specs.Mapped.{Leaves, mapped_condition, mapped_argument, mapped_statement, mapped_block}
use Rattle.exo_tree.specs.Tree.{Kind, Binder, Control, Lit, Var, Condition, True, False, Flag, FieldFlag, Lt, Le, Gt, Ge, Eq, And, Or}
use Rattle.exo_tree.specs.Tree.{Argument, ControlArg, ConditionArg, Whole, Window, ParamKind, ControlParam, TensorParam, WindowParam, Param}
use Rattle.exo_tree.specs.Tree.{Statement, Assign, Reduce, Config, Pass, If, For, Alloc, View, Call, Block, end, next}
use Rattle.exo_meaning.specs.Calls.{Callee}
use Rattle.exo_meaning.specs.Inputs.{is_buffer_of}
use Rattle.exo_meaning.specs.Unseen.{in_condition as condition_mentions, in_argument as argument_mentions}
use Rattle.exo_meaning.specs.Units.{Sort, Scope, sort_in, scope_of, with_name, param_sort, is_truth, is_block}
use Rattle.exo_meaning.proofs.Frame.{or_parts}
use Rattle.meaning_laws.specs.Flags as flags
use Rattle.meaning_laws.specs.Scoped.{has_binder, step_has_binder}
use Rattle.meaning_laws.specs.Substitute.{has_variable, has_flag, argument_has_flag, arguments_have_flag}
use Rattle.meaning_laws.specs.Substitute.{catches, step_catches}
use Rattle.meaning_laws.proofs.Facts.{or_left, or_right}
use Rattle.meaning_laws.proofs.FirstState.{Differ}
use Rattle.meaning_laws.proofs.Scoped.{both_false}
use Rattle.inplace_laws.specs.Inline.{with_argument}
use Rattle.inplace_laws.specs.Windows as windows
use Rattle.place_laws.proofs.OfOrder.Caught.{block_catches}
use Rattle.call_laws.proofs.OfCalls.InlineWindow.{not_if}

-- an expression without variables
abbrev pub none_of : Control
none_of = Lit (pos 0)

-- the block binds i in no loop, and reads no flag i
abbrev pub IsUncaught : ℕ → Block → Type 0
IsUncaught i b = catches i none_of b ≡ false

-- ---- leaves exchanged

module _ (leaves : Leaves) (i j : ℕ) (names : (x : ℕ) → (leaves.name x == j) ≡ (x == i))
    (binders : (x : Binder) → ((leaves.binder x).id == j) ≡ (x.id == i)) where
  flag_mapped : (c : Condition) → has_flag j (mapped_condition leaves c) ≡ has_flag i c
  flag_mapped True = refl
  flag_mapped False = refl
  flag_mapped (Flag x) = names x
  flag_mapped (FieldFlag f) = refl
  flag_mapped (Lt a b) = refl
  flag_mapped (Le a b) = refl
  flag_mapped (Gt a b) = refl
  flag_mapped (Ge a b) = refl
  flag_mapped (Eq a b) = refl
  flag_mapped (And c d) = ap₂ ◌||◌ (flag_mapped c) (flag_mapped d)
  flag_mapped (Or c d) = ap₂ ◌||◌ (flag_mapped c) (flag_mapped d)

  argument_mapped : (a : Argument) → argument_has_flag j (mapped_argument leaves a) ≡ argument_has_flag i a
  argument_mapped (ControlArg e) = refl
  argument_mapped (ConditionArg c) = flag_mapped c
  argument_mapped (Whole x) = refl
  argument_mapped (Window x cs) = refl

  arguments_mapped : (args : List Argument)
      → arguments_have_flag j (map (mapped_argument leaves) args) ≡ arguments_have_flag i args
  arguments_mapped [] = refl
  arguments_mapped (a ∷ args) = ap₂ ◌||◌ (argument_mapped a) (arguments_mapped args)

  mutual
    pub caught_mapped : (b : Block) → catches j none_of (mapped_block leaves b) ≡ catches i none_of b
    caught_mapped end = refl
    caught_mapped (next a b) = ap₂ ◌||◌ (step_mapped a) (caught_mapped b)

    step_mapped : (a : Statement)
        → step_catches j none_of (mapped_statement leaves a) ≡ step_catches i none_of a
    step_mapped (Assign y is e) = refl
    step_mapped (Reduce y is e) = refl
    step_mapped (Config f a) = argument_mapped a
    step_mapped Pass = refl
    step_mapped (If c a b) = ap₂ ◌||◌ (flag_mapped c) (ap₂ ◌||◌ (caught_mapped a) (caught_mapped b))
    step_mapped (For x lo hi b) = ap₂ ◌||◌ (binders x) (caught_mapped b)
    step_mapped (Alloc y cell dims memory) = refl
    step_mapped (View w y cs) = refl
    step_mapped (Call k args) = arguments_mapped args

-- ---- a window in the place of a name

module _ (i w : ℕ) (t : Argument) (lacks : argument_has_flag i t ≡ false) where
  flag_windowed : (c : Condition) → has_flag i (windows.in_condition w t c) ≡ has_flag i c
  flag_windowed True = refl
  flag_windowed False = refl
  flag_windowed (Flag x) = refl
  flag_windowed (FieldFlag f) = refl
  flag_windowed (Lt a b) = refl
  flag_windowed (Le a b) = refl
  flag_windowed (Gt a b) = refl
  flag_windowed (Ge a b) = refl
  flag_windowed (Eq a b) = refl
  flag_windowed (And c d) = ap₂ ◌||◌ (flag_windowed c) (flag_windowed d)
  flag_windowed (Or c d) = ap₂ ◌||◌ (flag_windowed c) (flag_windowed d)

  argument_windowed : (a : Argument)
      → argument_has_flag i (windows.in_argument w t a) ≡ argument_has_flag i a
  argument_windowed (ControlArg e) = refl
  argument_windowed (ConditionArg c) = flag_windowed c
  argument_windowed (Whole y) = go (y == w)
    where
      go : (s : Bool) → argument_has_flag i (cond s t (Whole y)) ≡ false
      go true = lacks
      go false = refl
  argument_windowed (Window x cs) = refl

  arguments_windowed : (args : List Argument)
      → arguments_have_flag i (windows.in_arguments w t args) ≡ arguments_have_flag i args
  arguments_windowed [] = refl
  arguments_windowed (a ∷ args) = ap₂ ◌||◌ (argument_windowed a) (arguments_windowed args)

  mutual
    caught_windowed : (b : Block)
        → catches i none_of (windows.in_block w t b) ≡ catches i none_of b
    caught_windowed end = refl
    caught_windowed (next a b) = ap₂ ◌||◌ (step_windowed a) (caught_windowed b)

    step_windowed : (a : Statement)
        → step_catches i none_of (windows.in_statement w t a) ≡ step_catches i none_of a
    step_windowed (Assign y is e) = refl
    step_windowed (Reduce y is e) = refl
    step_windowed (Config f a) = argument_windowed a
    step_windowed Pass = refl
    step_windowed (If c a b) = ap₂ ◌||◌ (flag_windowed c) (ap₂ ◌||◌ (caught_windowed a) (caught_windowed b))
    step_windowed (For x lo hi b) = ap (λ u. (x.id == i) || u) (caught_windowed b)
    step_windowed (Alloc y cell dims memory) = refl
    step_windowed (View v y cs) = refl
    step_windowed (Call k args) = arguments_windowed args

-- ---- a condition in the place of a flag

module _ (i x : ℕ) (t : Condition) (lacks : has_flag i t ≡ false) where
  flag_flagged : (c : Condition) → has_flag i c ≡ false → has_flag i (flags.in_condition x t c) ≡ false
  flag_flagged True h = refl
  flag_flagged False h = refl
  flag_flagged (Flag y) h = go (y == x)
    where
      go : (s : Bool) → has_flag i (if s then t else Flag y) ≡ false
      go true = lacks
      go false = h
  flag_flagged (FieldFlag f) h = refl
  flag_flagged (Lt a b) h = refl
  flag_flagged (Le a b) h = refl
  flag_flagged (Gt a b) h = refl
  flag_flagged (Ge a b) h = refl
  flag_flagged (Eq a b) h = refl
  flag_flagged (And c d) h =
      let p = or_parts (has_flag i c) (has_flag i d) h in
      both_false (has_flag i (flags.in_condition x t c)) (has_flag i (flags.in_condition x t d))
      (flag_flagged c p.0) (flag_flagged d p.1)
  flag_flagged (Or c d) h =
      let p = or_parts (has_flag i c) (has_flag i d) h in
      both_false (has_flag i (flags.in_condition x t c)) (has_flag i (flags.in_condition x t d))
      (flag_flagged c p.0) (flag_flagged d p.1)

  argument_flagged : (a : Argument) → argument_has_flag i a ≡ false
      → argument_has_flag i (flags.in_argument x t a) ≡ false
  argument_flagged (ControlArg e) h = refl
  argument_flagged (ConditionArg c) h = flag_flagged c h
  argument_flagged (Whole y) h = refl
  argument_flagged (Window y cs) h = refl

  arguments_flagged : (args : List Argument) → arguments_have_flag i args ≡ false
      → arguments_have_flag i (flags.in_arguments x t args) ≡ false
  arguments_flagged [] h = refl
  arguments_flagged (a ∷ args) h =
      let p = or_parts (argument_has_flag i a) (arguments_have_flag i args) h in
      both_false (argument_has_flag i (flags.in_argument x t a))
      (arguments_have_flag i (flags.in_arguments x t args))
      (argument_flagged a p.0) (arguments_flagged args p.1)

  mutual
    caught_flagged : (b : Block) → IsUncaught i b → IsUncaught i (flags.in_block x t b)
    caught_flagged end h = refl
    caught_flagged (next a b) h =
        let p = or_parts (step_catches i none_of a) (catches i none_of b) h in
        both_false (step_catches i none_of (flags.in_statement x t a))
        (catches i none_of (flags.in_block x t b)) (step_flagged a p.0) (caught_flagged b p.1)

    step_flagged : (a : Statement) → step_catches i none_of a ≡ false
        → step_catches i none_of (flags.in_statement x t a) ≡ false
    step_flagged (Assign y is e) h = refl
    step_flagged (Reduce y is e) h = refl
    step_flagged (Config f a) h = argument_flagged a h
    step_flagged Pass h = refl
    step_flagged (If c a b) h =
        let p = or_parts (has_flag i c) (catches i none_of a || catches i none_of b) h in
        let q = or_parts (catches i none_of a) (catches i none_of b) p.1 in
        both_false (has_flag i (flags.in_condition x t c))
        (catches i none_of (flags.in_block x t a) || catches i none_of (flags.in_block x t b))
        (flag_flagged c p.0)
        (both_false (catches i none_of (flags.in_block x t a)) (catches i none_of (flags.in_block x t b))
        (caught_flagged a q.0) (caught_flagged b q.1))
    step_flagged (For y lo hi b) h =
        let p = or_parts (y.id == i) (catches i none_of b) h in
        both_false (y.id == i) (catches i none_of (flags.in_block x t b)) p.0 (caught_flagged b p.1)
    step_flagged (Alloc y cell dims memory) h = refl
    step_flagged (View w y cs) h = refl
    step_flagged (Call k args) h = arguments_flagged args h

-- ---- an argument in the place of a parameter

pub put_uncaught : (i x : ℕ) (kind : ParamKind) (a : Argument) (b : Block)
    → argument_has_flag i a ≡ false → IsUncaught i b → IsUncaught i (with_argument x kind a b)
put_uncaught i x (ControlParam kind) (ControlArg e) b lacks h =
    caught_mapped (record { variable = λ y. if y == x then e else Var y; name = λ y. y; binder = λ y. y })
    i i (λ y. refl) (λ y. refl) b ∙ h
put_uncaught i x (ControlParam kind) (ConditionArg c) b lacks h = caught_flagged i x c lacks b h
put_uncaught i x (ControlParam kind) (Whole y) b lacks h = h
put_uncaught i x (ControlParam kind) (Window y cs) b lacks h = h
put_uncaught i x (TensorParam cell dims memory) a b lacks h = caught_windowed i x a lacks b ∙ h
put_uncaught i x (WindowParam cell dims memory) a b lacks h = caught_windowed i x a lacks b ∙ h

-- ---- another expression

-- the block binds no variable of it
module _ (i : ℕ) (e : Control) where
  abbrev Misses : (ℕ → Bool) → Type 0
  Misses binders = (x : ℕ) → binders x ≡ true → has_variable e x ≡ false

  mutual
    pub any_uncaught : (b : Block) → IsUncaught i b → Misses (has_binder b) → catches i e b ≡ false
    any_uncaught end h misses = refl
    any_uncaught (next a b) h misses =
        let p = or_parts (step_catches i none_of a) (catches i none_of b) h in
        both_false (step_catches i e a) (catches i e b)
        (any_step a p.0 (λ x k. misses x (or_left (step_has_binder a x) (has_binder b x) k)))
        (any_uncaught b p.1 (λ x k. misses x (or_right (step_has_binder a x) (has_binder b x) k)))

    any_step : (a : Statement) → step_catches i none_of a ≡ false → Misses (step_has_binder a)
        → step_catches i e a ≡ false
    any_step (Assign y is d) h misses = refl
    any_step (Reduce y is d) h misses = refl
    any_step (Config f a) h misses = h
    any_step Pass h misses = refl
    any_step (If c a b) h misses =
        let p = or_parts (has_flag i c) (catches i none_of a || catches i none_of b) h in
        let q = or_parts (catches i none_of a) (catches i none_of b) p.1 in
        both_false (has_flag i c) (catches i e a || catches i e b) p.0
        (both_false (catches i e a) (catches i e b)
        (any_uncaught a q.0 (λ x k. misses x (or_left (has_binder a x) (has_binder b x) k)))
        (any_uncaught b q.1 (λ x k. misses x (or_right (has_binder a x) (has_binder b x) k))))
    any_step (For y lo hi b) h misses =
        let p = or_parts (y.id == i) (catches i none_of b) h in
        both_false (y.id == i) (has_variable e y.id || catches i e b) p.0
        (both_false (has_variable e y.id) (catches i e b)
        (misses y.id (or_left (y.id == y.id) (has_binder b y.id) (eq-eqb y.id y.id refl)))
        (any_uncaught b p.1 (λ x k. misses x (or_right (x == y.id) (has_binder b x) k))))
    any_step (Alloc y cell dims memory) h misses = refl
    any_step (View w y cs) h misses = refl
    any_step (Call k args) h misses = h

-- ---- a flag is a name that is used

module _ (hidden : ℕ → Bool) (i : ℕ) (out : hidden i ≡ true) where
  no_flag : (c : Condition) → condition_mentions hidden c ≡ false → has_flag i c ≡ false
  no_flag True h = refl
  no_flag False h = refl
  no_flag (Flag x) h =
      not_if (x == i) (λ e. true≢false (sym out ∙ ap hidden (sym (eqb-true x i e)) ∙ h))
  no_flag (FieldFlag f) h = refl
  no_flag (Lt a b) h = refl
  no_flag (Le a b) h = refl
  no_flag (Gt a b) h = refl
  no_flag (Ge a b) h = refl
  no_flag (Eq a b) h = refl
  no_flag (And c d) h =
      let p = or_parts (condition_mentions hidden c) (condition_mentions hidden d) h in
      both_false (has_flag i c) (has_flag i d) (no_flag c p.0) (no_flag d p.1)
  no_flag (Or c d) h =
      let p = or_parts (condition_mentions hidden c) (condition_mentions hidden d) h in
      both_false (has_flag i c) (has_flag i d) (no_flag c p.0) (no_flag d p.1)

  pub no_flag_used : (a : Argument) → argument_mentions hidden a ≡ false → argument_has_flag i a ≡ false
  no_flag_used (ControlArg e) h = refl
  no_flag_used (ConditionArg c) h = no_flag c h
  no_flag_used (Whole x) h = refl
  no_flag_used (Window x cs) h = refl

-- ---- numbers among the parameters

-- each parameter that is a number, under its new id
abbrev pub KindUncaught : ParamKind → ℕ → Block → Type 0
KindUncaught (ControlParam kind) i b = is_truth kind ≡ false → IsUncaught i b
KindUncaught (TensorParam cell dims memory) i b = ⊤
KindUncaught (WindowParam cell dims memory) i b = ⊤

abbrev pub AreUncaught : (ℕ → ℕ) → List Param → Block → Type 0
AreUncaught to [] b = ⊤
AreUncaught to (p ∷ ps) b = KindUncaught p.kind (to p.binder.id) b × AreUncaught to ps b

still_there : (ps : List Param) (scope : Scope) (x : ℕ) (sort : Sort) → is_buffer_of x ps ≡ false
    → sort_in scope x ≡ Some sort → sort_in (scope_of scope ps) x ≡ Some sort
still_there [] scope x sort h k = k
still_there (p ∷ ps) scope x sort h k =
    let q = or_parts (x == p.binder.id) (is_buffer_of x ps) h in
    still_there ps (with_name scope p.binder (param_sort p.kind)) x sort q.1
    (ap (λ t. if t then Some (param_sort p.kind) else sort_in scope x) q.0 ∙ k)

module _ (fields : ℕ → Option Kind) (memories : ℕ) (callees : ℕ → Option Callee) (root : ℕ → ℕ)
    (b : Block) (to : ℕ → ℕ) (copy : Block) (mine : ℕ → Bool)
    (copied : (i : ℕ) → mine i ≡ true → IsUncaught i b → IsUncaught (to i) copy) where
  one_uncaught : (kind : ParamKind) (scope : Scope) (i : ℕ) → mine i ≡ true
      → is_block fields memories callees scope root b ≡ true
      → sort_in scope i ≡ Some (param_sort kind) → KindUncaught kind (to i) copy
  one_uncaught (ControlParam kind) scope i own ok there = λ number.
      copied i own (block_catches fields memories callees i kind none_of number b scope root ok there
      (λ x h. refl))
  one_uncaught (TensorParam cell dims memory) scope i own ok there = tt
  one_uncaught (WindowParam cell dims memory) scope i own ok there = tt

  pub params_uncaught : (ps : List Param) (scope : Scope) → Differ ps
      → ((y : ℕ) → is_buffer_of y ps ≡ true → mine y ≡ true)
      → is_block fields memories callees (scope_of scope ps) root b ≡ true → AreUncaught to ps copy
  params_uncaught [] scope differ own ok = tt
  params_uncaught (p ∷ ps) scope differ own ok =
      let inner = with_name scope p.binder (param_sort p.kind) in (
        one_uncaught p.kind (scope_of inner ps) p.binder.id
            (own p.binder.id (or_left (p.binder.id == p.binder.id) (is_buffer_of p.binder.id ps)
            (eq-eqb p.binder.id p.binder.id refl))) ok
            (still_there ps inner p.binder.id (param_sort p.kind) differ.0
            (ap (λ t. if t then Some (param_sort p.kind) else sort_in scope p.binder.id)
            (eq-eqb p.binder.id p.binder.id refl))),
        params_uncaught ps inner differ.1
            (λ y h. own y (or_right (y == p.binder.id) (is_buffer_of y ps) h)) ok,
      )
