-- Written expressions with their names resolved are the expressions, under other ids, and break no rule.
use Rattle.std.proofs.Common.{◌≡◌, ℕ, ℤ, pos, negsuc, ◌+◌, nat_lt, Bool, true, false, not, ◌&&◌, ◌||◌, if◌then◌else◌, List, [], ◌∷◌, ◌++◌, map, Option, Some, None, slice_get, refl, sym, ap, ap₂, ◌∙◌, true≢false, eqb-true, eq-eqb}
use Rattle.exo_tree.specs.Tree.{Kind, ConfigField, Control, Lit, Var, Field, StrideOf, Neg, Add, Sub, Mul, Div, Mod, Condition, Datum}
use Rattle.exo_meaning.specs.Units.{Scope, Sort, ControlName, BufferName, Reads, sort_in, is_truth, is_number, has_rank, has_dimension, is_of_literals, is_literal_number, is_control, are_controls, is_number_field, field_kind}
use Rattle.exo_meaning.specs.Renaming.{Renaming, re_control, re_controls}
use Rattle.text_lexer.specs.declared.token.Literal.TheVariants.{Value}
use Rattle.text_expressions.specs.Expression.{Tree, parens, trees}
use Rattle.rules_names.specs.declared.error.TypeKind.{TypeKind}
use Rattle.rules_names.specs.declared.fault.Fault.{Fault}
use Rattle.rules_names.specs.Faults.{unless, parts_then_whole}
use Rattle.rules_names.specs.Names.{named_in, sort_of, field_in}
use Rattle.rules_names.specs.ExpressionRules.{suits, field_suits, may_be_control, has_variables, name_faults, rank_faults, dimension_faults, is_buffer, field_faults, wrong_form, list_of, control_faults, controls_faults}
use Rattle.rules_names.specs.Resolved.{field_number, control_of, controls_of}
use Rattle.text_show.specs.Words.{Words}
use Rattle.text_show.specs.ControlText.{precedence_of}
use Rattle.exo_types_laws.specs.Shown.Written.{literal_tree, placed, config_of, field_of}
use Rattle.exo_types_laws.specs.Shown.Written.{config_word, field_word, control_tree}
use Rattle.exo_types_laws.specs.Shown.Written.{condition_tree, datum_tree}
use Rattle.exo_types_laws.proofs.OfShown.Scoped.{Finds, re_scope, both, id_found, sort_found}

-- ---- nothing is broken

pub unless_fine : (b : Bool) (rule : TypeKind) (n : ℕ) → b ≡ true → unless b rule n ≡ []
unless_fine b rule n h = ap (λ t. unless t rule n) h

pub joined_fine : (a b : List Fault) → a ≡ [] → b ≡ [] → a ++ b ≡ []
joined_fine a b p q = ap₂ ◌++◌ p q

pub parts_fine : (parts whole : List Fault) → parts ≡ [] → whole ≡ [] → parts_then_whole parts whole ≡ []
parts_fine parts whole p q = ap₂ parts_then_whole p q

-- ---- what breaks no rule is of its kind

pub front_none : (a b : List Fault) → a ++ b ≡ [] → a ≡ []
front_none [] b h = refl
front_none (x ∷ a) b h = cc

pub back_none : (a b : List Fault) → a ++ b ≡ [] → b ≡ []
back_none [] b h = h
back_none (x ∷ a) b h = cc

pub parts_none : (parts whole : List Fault) → parts_then_whole parts whole ≡ [] → parts ≡ []
parts_none [] whole h = refl
parts_none (x ∷ parts) whole h = cc

unless_kept : (b : Bool) (rule : TypeKind) (n : ℕ) → unless b rule n ≡ [] → b ≡ true
unless_kept true rule n h = refl
unless_kept false rule n h = cc

pub suits_kept : (test : Option Sort → Bool) (s : Option Sort) (n : ℕ) → name_faults test s n ≡ [] → suits test s ≡ true
suits_kept test None n h = refl
suits_kept test (Some s) n h = unless_kept (test (Some s)) _ n h

pub field_kept : (truth may : Bool) (f : Option (ℕ × Kind)) (n : ℕ) → field_faults truth may f n ≡ [] → field_suits truth f ≡ true
field_kept truth may None n h = refl
field_kept true may (Some f) n h = unless_kept (is_truth f.1) _ n (front_none _ _ h)
field_kept false may (Some f) n h = unless_kept (not (is_truth f.1)) _ n (front_none _ _ h)

-- ---- names and ranks

pub name_by : (test : Option Sort → Bool) (s : Option Sort) (n : ℕ) → test None ≡ false → test s ≡ true → name_faults test s n ≡ []
name_by test None n absent h = absurd (true≢false (sym h ∙ absent))
name_by test (Some s) n absent h = unless_fine _ _ n h

pub rank_fine : (s : Option Sort) (k n : ℕ) → has_rank k s ≡ true → rank_faults s k n ≡ []
rank_fine None k n h = refl
rank_fine (Some (ControlName kind)) k n h = refl
rank_fine (Some (BufferName cell rank dense)) k n h = unless_fine _ _ n (eq-eqb rank k (sym (eqb-true k rank h)))

pub ranked_buffer : (s : Option Sort) (k : ℕ) → has_rank k s ≡ true → is_buffer s ≡ true
ranked_buffer None k h = cc
ranked_buffer (Some (ControlName kind)) k h = cc
ranked_buffer (Some (BufferName cell rank dense)) k h = refl

dimension_fine : (s : Option Sort) (k n : ℕ) → has_dimension k s ≡ true → dimension_faults s (Value k) n ≡ []
dimension_fine None k n h = refl
dimension_fine (Some (ControlName kind)) k n h = refl
dimension_fine (Some (BufferName cell rank dense)) k n h = unless_fine _ _ n h

dimension_buffer : (s : Option Sort) (k : ℕ) → has_dimension k s ≡ true → is_buffer s ≡ true
dimension_buffer None k h = cc
dimension_buffer (Some (ControlName kind)) k h = cc
dimension_buffer (Some (BufferName cell rank dense)) k h = refl

pub listed_again : (es : List Tree) → list_of (trees es) ≡ es
listed_again [] = refl
listed_again (e ∷ es) = ap (λ l. e ∷ l) (listed_again es)

some_literal : (u v : Bool) → (u || v) ≡ true → not (not u && not v) ≡ true
some_literal true v h = refl
some_literal false true h = refl
some_literal false false h = cc

either_not : (u v : Bool) → (not u || not v) ≡ not (u && v)
either_not true v = refl
either_not false v = refl

or_false : (u : Bool) → (u || false) ≡ u
or_false true = refl
or_false false = refl

-- each field is found by its names
pub record FindsFields (fields : List ConfigField) : Type 0 where
  pub found : (f : ℕ) (x : ConfigField) → slice_get fields f ≡ Some x → field_in fields x.config x.name ≡ Some (f, x.kind)

pub field_is : (fields : List ConfigField) → FindsFields fields → (f : ℕ) (kind : Kind) → field_kind fields f ≡ Some kind → field_in fields (config_word fields f) (field_word fields f) ≡ Some (f, kind)
field_is fields finds f kind h = by (slice_get fields f) refl h
  where
    by : (o : Option ConfigField) → slice_get fields f ≡ o → (elim o [ None ↦ None | Some x ↦ Some x.kind ]) ≡ Some kind → field_in fields (config_of f o) (field_of f o) ≡ Some (f, kind)
    by None p h = cc
    by (Some x) p h = let same : x.kind ≡ kind = cc in finds.found f x p ∙ ap (λ k. Some (f, k)) same

module _ (w : Words) (fields : List ConfigField) (r : Renaming) (scope : Scope) (finds : Finds w r scope) (finds_fields : FindsFields fields) where
  abbrev there : Scope
  there = re_scope r scope

  abbrev of_control : Control → Tree
  of_control e = control_tree w fields e

  abbrev of_condition : Condition → Tree
  of_condition c = condition_tree w fields c

  abbrev of_datum : Datum → Tree
  of_datum e = datum_tree w fields e

  pub name_fine : (test : Option Sort → Bool) (x n : ℕ) → test None ≡ false → test (sort_in scope x) ≡ true → name_faults test (sort_of (named_in there (w.name x))) n ≡ []
  name_fine test x n absent h = ap (λ s. name_faults test s n) (sort_found w r scope finds x test absent h) ∙ name_by test (sort_in scope x) n absent h

  -- ---- parentheses

  control_by : (q : Bool) (e : Tree) → control_of fields there (if q then parens e else e) ≡ control_of fields there e
  control_by true e = refl
  control_by false e = refl

  variables_by : (q : Bool) (e : Tree) → has_variables (if q then parens e else e) ≡ has_variables e
  variables_by true e = refl
  variables_by false e = refl

  -- ---- control values

  module _ (may : Reads) where
    control_form : (e : Control) → ((m : ℕ) → control_faults fields may there m (of_control e) ≡ []) → may_be_control fields there (of_control e) ≡ true
    control_form (Lit (pos n)) fine = refl
    control_form (Lit (negsuc n)) fine = refl
    control_form (Var x) fine = suits_kept is_number _ 0 (fine 0)
    control_form (Field f) fine = field_kept false may.fields _ 0 (fine 0)
    control_form (StrideOf x k) fine = refl
    control_form (Neg a) fine = refl
    control_form (Add a b) fine = refl
    control_form (Sub a b) fine = refl
    control_form (Mul a b) fine = refl
    control_form (Div a n) fine = refl
    control_form (Mod a n) fine = refl

    control_in : (q : Bool) (n : ℕ) (e : Tree) → may_be_control fields there e ≡ true → ((m : ℕ) → control_faults fields may there m e ≡ []) → control_faults fields may there n (if q then parens e else e) ≡ []
    control_in true n e form fine = ap (λ t. if t then control_faults fields may there (n + 1) e else wrong_form fields there n (parens e)) form ∙ fine (n + 1)
    control_in false n e form fine = fine n

    literal_same : (n : ℤ) → is_literal_number n ≡ true → control_of fields there (literal_tree n) ≡ Lit n
    literal_same (pos n) h = refl
    literal_same (negsuc n) h = cc

    number_fields : (f : ℕ) → is_number_field (field_kind fields) (field_kind fields f) ≡ true → (k : Kind) × (field_kind fields f ≡ Some k) × (not (is_truth k) ≡ true)
    number_fields f h = by (field_kind fields f) refl h
      where
        by : (o : Option Kind) → field_kind fields f ≡ o → is_number_field (field_kind fields) o ≡ true → (k : Kind) × (field_kind fields f ≡ Some k) × (not (is_truth k) ≡ true)
        by None p h = cc
        by (Some k) p h = (k, p, h)

    pub control_same : (e : Control) → is_control (field_kind fields) may scope e ≡ true → control_of fields there (of_control e) ≡ re_control r e
    control_same (Lit n) h = literal_same n h
    control_same (Var x) h = ap Var (id_found w r scope finds x is_number refl h)
    control_same (Field f) h = let k = number_fields f (both _ _ h).1 in ap (λ t. Field (field_number t)) (field_is fields finds_fields f k.0 k.1)
    control_same (StrideOf x k) h = ap (λ y. StrideOf y k) (id_found w r scope finds x (has_dimension k) refl (both _ _ h).1)
    control_same (Neg a) h = ap Neg (control_by _ (of_control a) ∙ control_same a h)
    control_same (Add a b) h = ap₂ Add (control_by _ (of_control a) ∙ control_same a (both _ _ h).0) (control_by _ (of_control b) ∙ control_same b (both _ _ h).1)
    control_same (Sub a b) h = ap₂ Sub (control_by _ (of_control a) ∙ control_same a (both _ _ h).0) (control_by _ (of_control b) ∙ control_same b (both _ _ h).1)
    control_same (Mul a b) h = let p = both (is_control (field_kind fields) may scope a && is_control (field_kind fields) may scope b) _ h in let q = both (is_control (field_kind fields) may scope a) _ p.0 in ap₂ Mul (control_by _ (of_control a) ∙ control_same a q.0) (control_by _ (of_control b) ∙ control_same b q.1)
    control_same (Div a (pos n)) h = ap (λ c. Div c (pos n)) (control_by _ (of_control a) ∙ control_same a (both _ _ h).0)
    control_same (Div a (negsuc n)) h = absurd (true≢false (sym (both (is_control (field_kind fields) may scope a) _ h).1))
    control_same (Mod a (pos n)) h = ap (λ c. Mod c (pos n)) (control_by _ (of_control a) ∙ control_same a (both _ _ h).0)
    control_same (Mod a (negsuc n)) h = absurd (true≢false (sym (both (is_control (field_kind fields) may scope a) _ h).1))

    variables_of : (e : Control) → has_variables (of_control e) ≡ not (is_of_literals e)
    variables_of (Lit (pos n)) = refl
    variables_of (Lit (negsuc n)) = refl
    variables_of (Var x) = refl
    variables_of (Field f) = refl
    variables_of (StrideOf x k) = refl
    variables_of (Neg a) = variables_by _ (of_control a) ∙ variables_of a
    variables_of (Add a b) = ap₂ ◌||◌ (variables_by _ (of_control a) ∙ variables_of a) (variables_by _ (of_control b) ∙ variables_of b) ∙ either_not _ _
    variables_of (Sub a b) = ap₂ ◌||◌ (variables_by _ (of_control a) ∙ variables_of a) (variables_by _ (of_control b) ∙ variables_of b) ∙ either_not _ _
    variables_of (Mul a b) = ap₂ ◌||◌ (variables_by _ (of_control a) ∙ variables_of a) (variables_by _ (of_control b) ∙ variables_of b) ∙ either_not _ _
    variables_of (Div a (pos n)) = ap (λ t. t || false) (variables_by _ (of_control a) ∙ variables_of a) ∙ or_false _
    variables_of (Div a (negsuc n)) = ap (λ t. t || false) (variables_by _ (of_control a) ∙ variables_of a) ∙ or_false _
    variables_of (Mod a (pos n)) = ap (λ t. t || false) (variables_by _ (of_control a) ∙ variables_of a) ∙ or_false _
    variables_of (Mod a (negsuc n)) = ap (λ t. t || false) (variables_by _ (of_control a) ∙ variables_of a) ∙ or_false _

    part_fine : (place : ℕ) (n : ℕ) (e : Control) → ((m : ℕ) → control_faults fields may there m (of_control e) ≡ []) → control_faults fields may there n (placed place (precedence_of e) (of_control e)) ≡ []
    part_fine place n e fine = control_in (nat_lt (precedence_of e) place) n (of_control e) (control_form e fine) fine

    pub control_fine : (e : Control) → is_control (field_kind fields) may scope e ≡ true → (n : ℕ) → control_faults fields may there n (of_control e) ≡ []
    control_fine (Lit (pos k)) h n = refl
    control_fine (Lit (negsuc k)) h n = absurd (true≢false (sym h))
    control_fine (Var x) h n = name_fine is_number x n refl h
    control_fine (Field f) h n =
        let k = number_fields f (both _ _ h).1 in
        ap (λ t. field_faults false may.fields t n) (field_is fields finds_fields f k.0 k.1)
        ∙ joined_fine _ _ (unless_fine _ _ n k.2) (unless_fine _ _ n (both _ _ h).0)
    control_fine (StrideOf x k) h n =
        let d = (both _ _ h).1 in
        parts_fine _ _ (name_fine is_buffer x (n + 2) refl (dimension_buffer (sort_in scope x) k d))
        (joined_fine _ _ (ap (λ s. dimension_faults s (Value k) (n + 4)) (sort_found w r scope finds x (has_dimension k) refl d) ∙ dimension_fine (sort_in scope x) k (n + 4) d) (unless_fine _ _ n (both _ _ h).0))
    control_fine (Neg a) h n = part_fine 5 (n + 1) a (control_fine a h)
    control_fine (Add a b) h n = parts_fine _ _ (joined_fine _ _ (part_fine 3 n a (control_fine a (both _ _ h).0)) (part_fine 4 _ b (control_fine b (both _ _ h).1))) refl
    control_fine (Sub a b) h n = parts_fine _ _ (joined_fine _ _ (part_fine 3 n a (control_fine a (both _ _ h).0)) (part_fine 4 _ b (control_fine b (both _ _ h).1))) refl
    control_fine (Mul a b) h n =
        let p = both (is_control (field_kind fields) may scope a && is_control (field_kind fields) may scope b) _ h in
        let q = both (is_control (field_kind fields) may scope a) _ p.0 in
        parts_fine _ _ (joined_fine _ _ (part_fine 4 n a (control_fine a q.0)) (part_fine 5 _ b (control_fine b q.1)))
        (unless_fine _ _ n
        (ap not (ap₂ ◌&&◌ (variables_by (nat_lt (precedence_of a) 4) (of_control a) ∙ variables_of a) (variables_by (nat_lt (precedence_of b) 5) (of_control b) ∙ variables_of b)) ∙ some_literal (is_of_literals a) (is_of_literals b) p.1))
    control_fine (Div a (pos k)) h n =
        let p = both (is_control (field_kind fields) may scope a) _ h in
        parts_fine _ _ (joined_fine _ _ (part_fine 4 n a (control_fine a p.0)) refl) (unless_fine _ _ _ (both (is_literal_number (pos k)) _ p.1).1)
    control_fine (Div a (negsuc k)) h n = absurd (true≢false (sym (both (is_control (field_kind fields) may scope a) _ h).1))
    control_fine (Mod a (pos k)) h n =
        let p = both (is_control (field_kind fields) may scope a) _ h in
        parts_fine _ _ (joined_fine _ _ (part_fine 4 n a (control_fine a p.0)) refl) (unless_fine _ _ _ (both (is_literal_number (pos k)) _ p.1).1)
    control_fine (Mod a (negsuc k)) h n = absurd (true≢false (sym (both (is_control (field_kind fields) may scope a) _ h).1))

    pub controls_same : (es : List Control) → are_controls (field_kind fields) may scope es ≡ true → controls_of fields there (map (control_tree w fields) es) ≡ re_controls r es
    controls_same [] h = refl
    controls_same (e ∷ es) h = ap₂ ◌∷◌ (control_same e (both _ _ h).0) (controls_same es (both (is_control (field_kind fields) may scope e) _ h).1)

    pub controls_fine : (es : List Control) → are_controls (field_kind fields) may scope es ≡ true → (n : ℕ) → controls_faults fields may there n (map (control_tree w fields) es) ≡ []
    controls_fine [] h n = refl
    controls_fine (e ∷ es) h n = joined_fine _ _ (control_fine e (both _ _ h).0 n) (controls_fine es (both (is_control (field_kind fields) may scope e) _ h).1 _)
