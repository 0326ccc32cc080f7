-- In a well-formed procedure the assertions and the values that are written to fields are affine,
-- over variables below 2^31.
use Rattle.std.proofs.Common.{◌≡◌, ◌≤◌, ◌^◌, ℕ, nat_lt, Bool, true, false, not, ◌&&◌, ◌||◌}
use Rattle.std.proofs.Common.{List, [], ◌∷◌, map, refl, sym, ap, ap₂, ◌∙◌, true≢false, arith}
use Rattle.std.proofs.lemmas.Bool.Decides.{nat_tests}
use Rattle.std.specs.Int.{is_positive}
use Rattle.std.specs.List.{list_all}
use Rattle.exo_tree.specs.Tree.{Control, Lit, Var, Field, StrideOf, Neg, Add, Sub, Mul, Div, Mod}
use Rattle.exo_tree.specs.Tree.{Condition, True, False, Flag, FieldFlag, Lt, Le, Gt, Ge, Eq, And, Or}
use Rattle.exo_tree.specs.Tree.{Argument, ControlArg, ConditionArg, Whole, Window, Statement}
use Rattle.exo_tree.specs.Tree.{Assign, Reduce, Config, Pass, If, For, Alloc, View, Call}
use Rattle.exo_tree.specs.Tree.{Block, end, next, Procedure}
use Rattle.exo_meaning.specs.Orders.{Each}
use Rattle.exo_meaning.specs.Units.{is_of_literals, is_short, bound_ids}
use Rattle.exo_meaning.specs.Unseen.{in_control, in_condition, in_argument}
use Rattle.exo_meaning.specs.Unseen.{in_statement, in_block}
use Rattle.exo_meaning.proofs.Frame.{or_parts}
use Rattle.meaning_laws.specs.Facts.{Holds}
use Rattle.meaning_laws.specs.PlaceFacts.{all_written, step_all_written}
use Rattle.meaning_laws.specs.Scoped.{is_not, is_param, is_scoped, has_binder, UnmentionedLaw}
use Rattle.meaning_laws.proofs.CopiesAtPlaces.{no_param, no_binder}
use Rattle.meaning_laws.proofs.Numbers.{false_by}
use Rattle.affine_forms.specs.Forms.{keeps_rules}
use Rattle.affine_forms.specs.Formulas.{condition_keeps_rules}
use Rattle.affine_forms.proofs.Values.{and_parts}
use Rattle.affine_places.specs.Facts.{fact_keeps_rules, Known}
use Rattle.affine_places.specs.Rules.{block_keeps_rules, statement_keeps_rules}
use Rattle.exo_effects.specs.Low.{is_low, condition_is_low, fact_is_low}

abbrev pub is_high : ℕ → Bool
is_high x = not (nat_lt x (2 ^ 31))

low_name : (x : ℕ) → is_high x ≡ false → nat_lt x (2 ^ 31) ≡ true
low_name x h = go (nat_lt x (2 ^ 31)) h
  where
    go : (t : Bool) → not t ≡ false → t ≡ true
    go true k = refl
    go false k = absurd (true≢false k)

from_high : (x : ℕ) → is_high x ≡ true → 2 ^ 31 ≤ x
from_high x h = go (nat_lt x (2 ^ 31)) refl h
  where
    go : (t : Bool) → nat_lt x (2 ^ 31) ≡ t → not t ≡ true → 2 ^ 31 ≤ x
    go true e k = absurd (true≢false (sym k))
    go false e k = grind (arith, nat_tests)

-- ---- what is over names that are not high

both_from :
    (r s x y l m : Bool)
    → (r ≡ true → x ≡ false → l ≡ true) → (s ≡ true → y ≡ false → m ≡ true)
    → (r && s) ≡ true → (x || y) ≡ false → (l && m) ≡ true
both_from r s x y l m f g h k =
    let p = and_parts r s h in
    let q = or_parts x y k in
    ap₂ ◌&&◌ (f p.0 q.0) (g p.1 q.1)

rules_low : (e : Control) → keeps_rules e ≡ true → in_control is_high e ≡ false → is_low e ≡ true
rules_low (Lit n) h k = refl
rules_low (Var x) h k = low_name x k
rules_low (Field f) h k = refl
rules_low (StrideOf x j) h k = refl
rules_low (Neg a) h k = rules_low a h k
rules_low (Add a b) h k =
    both_from (keeps_rules a) (keeps_rules b) (in_control is_high a) (in_control is_high b)
    (is_low a) (is_low b) (rules_low a) (rules_low b) h k
rules_low (Sub a b) h k =
    both_from (keeps_rules a) (keeps_rules b) (in_control is_high a) (in_control is_high b)
    (is_low a) (is_low b) (rules_low a) (rules_low b) h k
rules_low (Mul a b) h k =
    let p = and_parts (is_of_literals a || is_of_literals b) (keeps_rules a && keeps_rules b) h in
    ap₂ ◌&&◌ p.0
    (both_from (keeps_rules a) (keeps_rules b) (in_control is_high a) (in_control is_high b)
    (is_low a) (is_low b) (rules_low a) (rules_low b) p.1 k)
rules_low (Div a c) h k =
    let p = and_parts (is_positive c) (keeps_rules a) h in
    ap₂ ◌&&◌ p.0 (rules_low a p.1 k)
rules_low (Mod a c) h k =
    let p = and_parts (is_positive c) (keeps_rules a) h in
    ap₂ ◌&&◌ p.0 (rules_low a p.1 k)

sides_low :
    (a b : Control)
    → (keeps_rules a && keeps_rules b) ≡ true
    → (in_control is_high a || in_control is_high b) ≡ false
    → (is_low a && is_low b) ≡ true
sides_low a b h k =
    both_from (keeps_rules a) (keeps_rules b) (in_control is_high a) (in_control is_high b)
    (is_low a) (is_low b) (rules_low a) (rules_low b) h k

condition_low :
    (c : Condition)
    → condition_keeps_rules c ≡ true → in_condition is_high c ≡ false → condition_is_low c ≡ true
condition_low True h k = refl
condition_low False h k = refl
condition_low (Flag x) h k = low_name x k
condition_low (FieldFlag f) h k = refl
condition_low (Lt a b) h k = sides_low a b h k
condition_low (Le a b) h k = sides_low a b h k
condition_low (Gt a b) h k = sides_low a b h k
condition_low (Ge a b) h k = sides_low a b h k
condition_low (Eq a b) h k = sides_low a b h k
condition_low (And c d) h k =
    both_from (condition_keeps_rules c) (condition_keeps_rules d) (in_condition is_high c)
    (in_condition is_high d) (condition_is_low c) (condition_is_low d) (condition_low c)
    (condition_low d) h k
condition_low (Or c d) h k =
    both_from (condition_keeps_rules c) (condition_keeps_rules d) (in_condition is_high c)
    (in_condition is_high d) (condition_is_low c) (condition_is_low d) (condition_low c)
    (condition_low d) h k

-- ---- values that are written

abbrev pub value_is_low : Argument → Bool
value_is_low (ControlArg e) = is_low e
value_is_low (ConditionArg c) = condition_is_low c
value_is_low (Whole x) = true
value_is_low (Window x coords) = true

abbrev pub may_be_written : ℕ → Argument → Bool
may_be_written f a = value_is_low a

value_low :
    (a : Argument)
    → fact_keeps_rules (Known a) ≡ true → in_argument is_high a ≡ false → value_is_low a ≡ true
value_low (ControlArg e) h k = rules_low e h k
value_low (ConditionArg c) h k = condition_low c h k
value_low (Whole x) h k = refl
value_low (Window x coords) h k = refl

mutual
  writes_low :
      (b : Block)
      → block_keeps_rules b ≡ true → in_block is_high b ≡ false
      → all_written may_be_written b ≡ true
  writes_low end h k = refl
  writes_low (next a b) h k =
      both_from (statement_keeps_rules a) (block_keeps_rules b) (in_statement is_high a)
      (in_block is_high b) (step_all_written may_be_written a) (all_written may_be_written b)
      (step_writes_low a) (writes_low b) h k

  step_writes_low :
      (a : Statement)
      → statement_keeps_rules a ≡ true → in_statement is_high a ≡ false
      → step_all_written may_be_written a ≡ true
  step_writes_low (Assign x is e) h k = refl
  step_writes_low (Reduce x is e) h k = refl
  step_writes_low (Config f a) h k = value_low a h k
  step_writes_low Pass h k = refl
  step_writes_low (If c a b) h k =
      let inner = block_keeps_rules a && block_keeps_rules b in
      let p = and_parts (condition_keeps_rules c) ((is_short a && is_short b) && inner) h in
      let q = or_parts (in_condition is_high c) (in_block is_high a || in_block is_high b) k in
      both_from (block_keeps_rules a) (block_keeps_rules b) (in_block is_high a)
      (in_block is_high b) (all_written may_be_written a) (all_written may_be_written b)
      (writes_low a) (writes_low b) (and_parts (is_short a && is_short b) inner p.1).1 q.1
  step_writes_low (For i lo hi b) h k =
      let p = and_parts (keeps_rules lo && keeps_rules hi) (is_short b && block_keeps_rules b) h in
      let bounds = in_control is_high hi || in_block is_high b in
      let q = or_parts (is_high i.id) (in_control is_high lo || bounds) k in
      let r = or_parts (in_control is_high lo) bounds q.1 in
      writes_low b (and_parts (is_short b) (block_keeps_rules b) p.1).1
      (or_parts (in_control is_high hi) (in_block is_high b) r.1).1
  step_writes_low (Alloc x cell dims memory) h k = refl
  step_writes_low (View w x coords) h k = refl
  step_writes_low (Call n args) h k = refl

-- ---- in a procedure whose names are in scope

module _
    (unmentioned : UnmentionedLaw) (p : Procedure)
    (below : list_all (λ x. nat_lt x (2 ^ 31)) (bound_ids p) ≡ true)
  where
    low_param : (x : ℕ) → is_param p x ≡ true → is_high x ≡ false
    low_param x e =
        false_by (is_high x) (λ h.
        true≢false (sym e ∙ no_param (2 ^ 31) p below x (from_high x h)))

    low_binder : (x : ℕ) → has_binder p.body x ≡ true → is_high x ≡ false
    low_binder x e =
        false_by (is_high x) (λ h.
        true≢false (sym e ∙ no_binder (2 ^ 31) p below x (from_high x h)))

    body_not_high : is_scoped (is_param p) p.body ≡ true → in_block is_high p.body ≡ false
    body_not_high h = unmentioned (is_param p) is_high p.body h low_param low_binder

    -- a condition by the law of blocks
    condition_not_high :
        (t : Condition)
        → in_condition (is_not (is_param p)) t ≡ false
        → in_condition is_high t ≡ false
    condition_not_high t h =
        let scoped = ap (λ (z : Bool). (not z && (true && true)) && true) h in
        let all =
        unmentioned (is_param p) is_high (next (If t end end) end) scoped low_param
        (λ x e. absurd (true≢false (sym e)))
        in
        (or_parts (in_condition is_high t) (false || false)
        (or_parts (in_condition is_high t || (false || false)) false all).0).0

    pub asserts_low :
        (cs : List Condition)
        → Each (λ t. in_condition (is_not (is_param p)) t ≡ false) cs
        → list_all condition_keeps_rules cs ≡ true
        → list_all fact_is_low (map Holds cs) ≡ true
    asserts_low [] scoped h = refl
    asserts_low (c ∷ cs) scoped h =
        let q = and_parts (condition_keeps_rules c) (list_all condition_keeps_rules cs) h in
        ap₂ ◌&&◌ (condition_low c q.0 (condition_not_high c scoped.0)) (asserts_low cs scoped.1 q.1)

    pub body_writes_low :
        is_scoped (is_param p) p.body ≡ true
        → block_keeps_rules p.body ≡ true
        → all_written may_be_written p.body ≡ true
    body_writes_low h keeps = writes_low p.body keeps (body_not_high h)
