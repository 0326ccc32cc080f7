-- Where an expression may stand for a variable.
use Rattle.std.proofs.Common.{◌≡◌, ℕ, ◌==◌, ◌&&◌, ◌||◌, Bool, true, false, true≢false, cond, not}
use Rattle.std.proofs.Common.{List, [], ◌∷◌, Option, Some, None, refl, sym, ap, ap₂, ◌∙◌, eqb-true}
use Rattle.std.proofs.Common.{eq-eqb}
use Rattle.exo_tree.specs.Tree.{Binder, Kind, Index, Control, Condition, True, False, Flag}
use Rattle.exo_tree.specs.Tree.{FieldFlag, Lt, Le, Gt, Ge, Eq, And, Or, Argument, ControlArg}
use Rattle.exo_tree.specs.Tree.{ConditionArg, Whole, Window, Statement, Assign, Reduce, Config}
use Rattle.exo_tree.specs.Tree.{Pass, If, For, Alloc, View, Call, Block, end, next, Param}
use Rattle.exo_tree.specs.Tree.{ParamKind, ControlParam, TensorParam, WindowParam}
use Rattle.exo_meaning.specs.Calls.{Callee}
use Rattle.exo_meaning.specs.Run.{roots_after, kinds_of, unit_world}
use Rattle.exo_meaning.specs.Unseen.{in_block as mentions, in_statement as step_mentions}
use Rattle.exo_meaning.specs.Unseen.{in_control as control_mentions}
use Rattle.exo_meaning.specs.Unseen.{in_condition as condition_mentions}
use Rattle.exo_meaning.specs.Units.{Sort, ControlName, Scope, sort_in, with_name, is_new, is_truth}
use Rattle.exo_meaning.specs.Units.{is_flag, Reads, with_fields, with_strides, with_both, plainly}
use Rattle.exo_meaning.specs.Units.{is_control, is_condition, is_of_kind, is_for, are_for, is_call}
use Rattle.exo_meaning.specs.Units.{is_write, is_empty, is_short, scope_after, is_block}
use Rattle.exo_meaning.specs.Units.{is_statement, field_kind}
use Rattle.exo_meaning.proofs.Frame.{or_parts}
use Rattle.meaning_laws.specs.Scoped.{has_binder, step_has_binder}
use Rattle.meaning_laws.specs.Substitute.{has_variable, has_flag, argument_has_flag}
use Rattle.meaning_laws.specs.Substitute.{arguments_have_flag, catches, step_catches}
use Rattle.meaning_laws.proofs.Substitute.{and_parts}
use Rattle.meaning_laws.proofs.Covered.{or_left, or_right}
use Rattle.meaning_laws.proofs.Sorted.{is_other}
use Rattle.place_laws.specs.Order.Caught.{NothingIsCaught}

neither : (a b : Bool) → a ≡ false → b ≡ false → (a || b) ≡ false
neither a b h k = ap₂ ◌||◌ h k

turned : (x y : ℕ) → (x == y) ≡ false → (y == x) ≡ false
turned x y h = go (y == x) (eqb-true y x)
  where
    go : (t : Bool) → (t ≡ true → y ≡ x) → t ≡ false
    go false same = refl
    go true same = absurd (true≢false (sym (eq-eqb x y (sym (same refl))) ∙ h))

module _ (fields : ℕ → Option Kind) (memories : ℕ) (callees : ℕ → Option Callee) (i : ℕ)
    (kind : Kind) (e : Control) (number : is_truth kind ≡ false) where
  abbrev InScope : Scope → Type 0
  InScope scope = sort_in scope i ≡ Some (ControlName kind)

  -- ---- flags

  no_flag : (may : Reads) (scope : Scope) → InScope scope → (c : Condition)
      → is_condition fields may scope c ≡ true → has_flag i c ≡ false
  no_flag may scope there True ok = refl
  no_flag may scope there False ok = refl
  no_flag may scope there (Flag x) ok = go (x == i) (eqb-true x i)
    where
      go : (t : Bool) → (t ≡ true → x ≡ i) → t ≡ false
      go false same = refl
      go true same = absurd (true≢false
          (sym ok ∙ ap (λ y. is_flag (sort_in scope y)) (same refl) ∙ ap is_flag there ∙ number))
  no_flag may scope there (FieldFlag f) ok = refl
  no_flag may scope there (Lt a b) ok = refl
  no_flag may scope there (Le a b) ok = refl
  no_flag may scope there (Gt a b) ok = refl
  no_flag may scope there (Ge a b) ok = refl
  no_flag may scope there (Eq a b) ok = refl
  no_flag may scope there (And c d) ok =
      let p = and_parts (is_condition fields may scope c) (is_condition fields may scope d) ok in
      neither (has_flag i c) (has_flag i d) (no_flag may scope there c p.0)
      (no_flag may scope there d p.1)
  no_flag may scope there (Or c d) ok =
      let p = and_parts (is_condition fields may scope c) (is_condition fields may scope d) ok in
      neither (has_flag i c) (has_flag i d) (no_flag may scope there c p.0)
      (no_flag may scope there d p.1)

  no_flag_of : (may : Reads) (scope : Scope) → InScope scope → (k : Kind) (a : Argument)
      → is_of_kind fields may scope k a ≡ true → argument_has_flag i a ≡ false
  no_flag_of may scope there k (ControlArg a) ok = refl
  no_flag_of may scope there k (ConditionArg c) ok =
      no_flag may scope there c (and_parts (is_truth k) (is_condition fields may scope c) ok).1
  no_flag_of may scope there k (Whole x) ok = refl
  no_flag_of may scope there k (Window x coords) ok = refl

  no_flag_for : (scope : Scope) → InScope scope → (k : ParamKind) (a : Argument)
      → is_for fields scope k a ≡ true → argument_has_flag i a ≡ false
  no_flag_for scope there (ControlParam k) a ok = no_flag_of with_both scope there k a ok
  no_flag_for scope there (TensorParam cell dims memory) (ControlArg a) ok = refl
  no_flag_for scope there (TensorParam cell dims memory) (ConditionArg c) ok =
      absurd (true≢false (sym ok))
  no_flag_for scope there (TensorParam cell dims memory) (Whole x) ok = refl
  no_flag_for scope there (TensorParam cell dims memory) (Window x coords) ok = refl
  no_flag_for scope there (WindowParam cell dims memory) (ControlArg a) ok = refl
  no_flag_for scope there (WindowParam cell dims memory) (ConditionArg c) ok =
      absurd (true≢false (sym ok))
  no_flag_for scope there (WindowParam cell dims memory) (Whole x) ok = refl
  no_flag_for scope there (WindowParam cell dims memory) (Window x coords) ok = refl

  no_flags_for : (scope : Scope) → InScope scope → (ps : List Param) (args : List Argument)
      → are_for fields scope ps args ≡ true → arguments_have_flag i args ≡ false
  no_flags_for scope there [] [] ok = refl
  no_flags_for scope there [] (a ∷ args) ok = absurd (true≢false (sym ok))
  no_flags_for scope there (p ∷ ps) [] ok = refl
  no_flags_for scope there (p ∷ ps) (a ∷ args) ok =
      let q = and_parts (is_for fields scope p.kind a) (are_for fields scope ps args) ok in
      neither (argument_has_flag i a) (arguments_have_flag i args)
      (no_flag_for scope there p.kind a q.0) (no_flags_for scope there ps args q.1)

  no_flags_in_call : (scope : Scope) → InScope scope
      → (root : ℕ → ℕ) (o : Option Callee) (args : List Argument)
      → is_call fields scope root o args ≡ true → arguments_have_flag i args ≡ false
  no_flags_in_call scope there root None args ok = absurd (true≢false (sym ok))
  no_flags_in_call scope there root (Some c) args ok =
      no_flags_for scope there c.procedure.params args
      (and_parts (are_for fields scope c.procedure.params args) _ ok).0

  no_flag_written : (scope : Scope) → InScope scope → (o : Option Kind) (a : Argument)
      → is_write fields scope o a ≡ true → argument_has_flag i a ≡ false
  no_flag_written scope there None a ok = absurd (true≢false (sym ok))
  no_flag_written scope there (Some k) a ok = no_flag_of with_strides scope there k a ok

  -- ---- trees

  in_more : (scope : Scope) (x : Binder) (sort : Sort) → is_new scope x ≡ true → InScope scope
      → InScope (with_name scope x sort)
  in_more scope x sort new there =
      ap (λ t. cond t (Some sort) (sort_in scope i))
      (is_other scope x new i (ControlName kind) there) ∙ there

  in_after : (a : Statement) (scope : Scope) (root : ℕ → ℕ)
      → is_statement fields memories callees scope root a ≡ true → InScope scope
      → InScope (scope_after a scope)
  in_after (Assign x is d) scope root ok there = there
  in_after (Reduce x is d) scope root ok there = there
  in_after (Config f a) scope root ok there = there
  in_after Pass scope root ok there = there
  in_after (If c a b) scope root ok there = there
  in_after (For x lo hi b) scope root ok there = there
  in_after (Alloc x cell dims memory) scope root ok there =
      in_more scope x _ (and_parts (is_new scope x) _ ok).0 there
  in_after (View w x coords) scope root ok there =
      in_more scope w _ (and_parts (is_new scope w) _ ok).0 there
  in_after (Call k args) scope root ok there = there

  abbrev Misses : (ℕ → Bool) → Type 0
  Misses binders = (x : ℕ) → binders x ≡ true → has_variable e x ≡ false

  mutual
    pub block_catches : (b : Block) (scope : Scope) (root : ℕ → ℕ)
        → is_block fields memories callees scope root b ≡ true → InScope scope
        → Misses (has_binder b) → catches i e b ≡ false
    block_catches end scope root ok there misses = refl
    block_catches (next a b) scope root ok there misses =
        let p = and_parts (is_statement fields memories callees scope root a) _ ok in
        neither (step_catches i e a) (catches i e b)
        (step_catches_none a scope root p.0 there
        (λ x h. misses x (or_left (step_has_binder a x) (has_binder b x) h)))
        (block_catches b (scope_after a scope) (roots_after a root) p.1
        (in_after a scope root p.0 there)
        (λ x h. misses x (or_right (step_has_binder a x) (has_binder b x) h)))

    step_catches_none : (a : Statement) (scope : Scope) (root : ℕ → ℕ)
        → is_statement fields memories callees scope root a ≡ true → InScope scope
        → Misses (step_has_binder a) → step_catches i e a ≡ false
    step_catches_none (Assign x is d) scope root ok there misses = refl
    step_catches_none (Reduce x is d) scope root ok there misses = refl
    step_catches_none (Config f a) scope root ok there misses =
        no_flag_written scope there (fields f) a ok
    step_catches_none Pass scope root ok there misses = refl
    step_catches_none (If c a b) scope root ok there misses =
        let p = and_parts (is_condition fields with_fields scope c) _ ok in
        let q = and_parts (not (is_empty a) && (is_short a && is_short b)) _ p.1 in
        let r = and_parts (is_block fields memories callees scope root a)
        (is_block fields memories callees scope root b) q.1 in
        neither (has_flag i c) (catches i e a || catches i e b)
        (no_flag with_fields scope there c p.0) (neither (catches i e a) (catches i e b)
        (block_catches a scope root r.0 there
        (λ x h. misses x (or_left (has_binder a x) (has_binder b x) h)))
        (block_catches b scope root r.1 there
        (λ x h. misses x (or_right (has_binder a x) (has_binder b x) h))))
    step_catches_none (For x lo hi b) scope root ok there misses =
        let p = and_parts (is_new scope x) _ ok in
        let q = and_parts (is_control fields plainly scope lo && is_control fields plainly scope hi)
        _ p.1 in
        let r = and_parts (not (is_empty b) && is_short b) _ q.1 in
        neither (x.id == i) (has_variable e x.id || catches i e b)
        (turned i x.id (is_other scope x p.0 i (ControlName kind) there))
        (neither (has_variable e x.id) (catches i e b)
        (misses x.id (or_left (x.id == x.id) (has_binder b x.id) (eq-eqb x.id x.id refl)))
        (block_catches b (with_name scope x (ControlName Index)) root r.1
        (in_more scope x (ControlName Index) p.0 there)
        (λ y h. misses y (or_right (y == x.id) (has_binder b y) h))))
    step_catches_none (Alloc x cell dims memory) scope root ok there misses = refl
    step_catches_none (View w x coords) scope root ok there misses = refl
    step_catches_none (Call k args) scope root ok there misses =
        no_flags_in_call scope there root (callees k) args ok

pub nothing_is_caught : NothingIsCaught
nothing_is_caught fields memories ps scope root i kind e b ok there number misses =
    block_catches (field_kind fields) memories (unit_world (kinds_of fields) ps).callees i kind e
    number b scope root ok there misses

-- ---- a block that mentions none of these names binds none of them

either : (a b : Bool) (P : Type 0) → (a || b) ≡ true → (a ≡ true → P) → (b ≡ true → P) → P
either true b P h f g = f refl
either false b P h f g = g h

module _ (hidden : ℕ → Bool) where
  own : (x y : ℕ) → (y == x) ≡ true → hidden x ≡ false → hidden y ≡ false
  own x y e h = ap hidden (eqb-true y x e) ∙ h

  mutual
    pub binders_are_shown : (b : Block) → mentions hidden b ≡ false → (y : ℕ)
        → has_binder b y ≡ true → hidden y ≡ false
    binders_are_shown end k y h = absurd (true≢false (sym h))
    binders_are_shown (next a b) k y h =
        let p = or_parts (step_mentions hidden a) (mentions hidden b) k in
        either (step_has_binder a y) (has_binder b y) _ h (step_binders_are_shown a p.0 y)
        (binders_are_shown b p.1 y)

    step_binders_are_shown : (a : Statement) → step_mentions hidden a ≡ false → (y : ℕ)
        → step_has_binder a y ≡ true → hidden y ≡ false
    step_binders_are_shown (Assign x is d) k y h = absurd (true≢false (sym h))
    step_binders_are_shown (Reduce x is d) k y h = absurd (true≢false (sym h))
    step_binders_are_shown (Config f a) k y h = absurd (true≢false (sym h))
    step_binders_are_shown Pass k y h = absurd (true≢false (sym h))
    step_binders_are_shown (If c a b) k y h =
        let p = or_parts (condition_mentions hidden c) (mentions hidden a || mentions hidden b) k in
        let q = or_parts (mentions hidden a) (mentions hidden b) p.1 in
        either (has_binder a y) (has_binder b y) _ h (binders_are_shown a q.0 y)
        (binders_are_shown b q.1 y)
    step_binders_are_shown (For x lo hi b) k y h =
        let p = or_parts (hidden x.id) _ k in
        let q = or_parts (control_mentions hidden lo)
        (control_mentions hidden hi || mentions hidden b) p.1 in
        let r = or_parts (control_mentions hidden hi) (mentions hidden b) q.1 in
        either (y == x.id) (has_binder b y) _ h (λ e. own x.id y e p.0) (binders_are_shown b r.1 y)
    step_binders_are_shown (Alloc x cell dims memory) k y h =
        own x.id y h (or_parts (hidden x.id) _ k).0
    step_binders_are_shown (View w x coords) k y h = own w.id y h (or_parts (hidden w.id) _ k).0
    step_binders_are_shown (Call g args) k y h = absurd (true≢false (sym h))
