-- What breaks no rule keeps the rules of a well-formed unit.
use Rattle.std.proofs.Common.{◌≡◌, ℕ, suc, pos, ◌+◌, ◌==◌, nat_lt, Bool, true, false, not, ◌&&◌, ◌||◌, List, [], ◌∷◌, ◌++◌, length, Option, Some, None, refl, sym, ap, ◌∙◌, true≢false, arith, if◌then◌else◌}
use Rattle.std.specs.List.{list_all, list_any}
use Rattle.std.proofs.lemmas.List.{length-map}
use Rattle.exo_reader.specs.Source.{Coordinate, point, span}
use Rattle.rules_names.specs.WindowRules.{coordinate_width, coordinate_faults, coordinates_faults, window_faults, coordinate_of, coordinates_of}
use Rattle.std.proofs.Math.Dec.{leb-zero}
use Rattle.std.proofs.lemmas.Bool.Decides.{Decides-eqb}
use Rattle.exo_tree.specs.Tree as tree
use Rattle.exo_tree.specs.Tree.{Kind, Binder, ConfigField, Coord}
use Rattle.exo_meaning.specs.Units.{Named, Scope, Reads, Sort, ControlName, BufferName, sort_in, plainly, is_truth, is_number, is_flag, is_text, is_of_literals, is_control, are_controls, is_condition, is_datum, is_access, is_window, is_coord, has_rank, has_dimension, field_kind, is_number_field, is_flag_field, is_new, with_name}
use Rattle.text_lexer.specs.declared.token.Literal.{Literal}
use Rattle.text_lexer.specs.declared.token.Literal.TheVariants.{Value, TooLarge}
use Rattle.text_expressions.specs.declared.source.Infix.TheVariants as o
use Rattle.text_expressions.specs.Expression.{Tree, Trees, number, truth, variable, access, field, stride, relu, select, negative, parens, binary, end, next}
use Rattle.rules_names.specs.declared.error.TypeKind.{TypeKind}
use Rattle.rules_names.specs.declared.fault.Fault.{Fault}
use Rattle.rules_names.specs.Faults.{fault, unless, earlier, least, is_before, parts_then_whole}
use Rattle.rules_names.specs.Names.{named_in, sort_of, id_in, id_of, field_from, field_in}
use Rattle.rules_names.specs.ExpressionRules.{width, may_be_control, may_be_condition, may_be_data, has_variables, is_divisor, name_faults, rank_faults, dimension_faults, is_buffer, field_faults, unknown_first, wrong_form, list_of, control_faults, controls_faults, condition_faults, read_faults, data_faults}
use Rattle.rules_names.specs.Resolved.{number_of, field_number, divisor_of, truth_of, control_of, controls_of, condition_of, datum_of}
use Rattle.rules_names.specs.Laws.{KeepsIds, is_small, fit, all_fit, coordinate_fits}

-- ---- no faults

-- of some faults there is a first
some_first : (a : Fault) (o : Option Fault) → earlier (Some a) o ≡ None → ⊥
some_first a None h = cc
some_first a (Some b) h = by (is_before b a) h
  where
    by : (t : Bool) → (if t then Some b else Some a) ≡ None → ⊥
    by true h = cc
    by false h = cc

pub none_of : (fs : List Fault) → least fs ≡ None → fs ≡ []
none_of [] h = refl
none_of (f ∷ fs) h = absurd (some_first f (least fs) h)

left_none : (xs ys : List Fault) → xs ++ ys ≡ [] → xs ≡ []
left_none [] ys h = refl
left_none (x ∷ xs) ys h = cc

right_none : (xs ys : List Fault) → xs ++ ys ≡ [] → ys ≡ []
right_none [] ys h = h
right_none (x ∷ xs) ys h = cc

fault_none : (rule : TypeKind) (n : ℕ) → fault rule n ≡ [] → ⊥
fault_none rule n h = cc

unless_none : (b : Bool) (rule : TypeKind) (n : ℕ) → unless b rule n ≡ [] → b ≡ true
unless_none true rule n h = refl
unless_none false rule n h = cc

wrong_none : (fields : List ConfigField) (scope : Scope) (n : ℕ) (e : Tree) → wrong_form fields scope n e ≡ [] → ⊥
wrong_none fields scope n e h = fault_none _ n (right_none (unknown_first fields scope n e) _ h)

parts_none : (parts whole : List Fault) → parts_then_whole parts whole ≡ [] → (parts ≡ []) × (whole ≡ [])
parts_none [] whole h = (refl, h)
parts_none (x ∷ parts) whole h = cc

both : (a b : Bool) → (a && b) ≡ true → (a ≡ true) × (b ≡ true)
both true b h = (refl, h)
both false b h = cc

pair : (a b : Bool) → a ≡ true → b ≡ true → (a && b) ≡ true
pair a b p q = ap (λ t. t && b) p ∙ q

neither : (a b : Bool) → (a || b) ≡ false → (a ≡ false) × (b ≡ false)
neither false b h = (refl, h)
neither true b h = cc

-- one of two sides has no variables
one_literal : (a b u v : Bool) → not (a && b) ≡ true → (a ≡ false → u ≡ true) → (b ≡ false → v ≡ true) → (u || v) ≡ true
one_literal true true u v h f g = absurd (true≢false (sym h))
one_literal true false true v h f g = refl
one_literal true false false v h f g = g refl
one_literal false b u v h f g = ap (λ t. t || v) (f refl)

-- ---- names and fields

pub named_kept : (scope : Scope) → KeepsIds scope → (x : List ℕ) (test : Option Sort → Bool) (n : ℕ) → name_faults test (sort_of (named_in scope x)) n ≡ [] → test (sort_in scope (id_in scope x)) ≡ true
named_kept scope keeps x test n h = by (named_in scope x) refl h
  where
    by : (o : Option Named) → named_in scope x ≡ o → name_faults test (sort_of o) n ≡ [] → test (sort_in scope (id_of o)) ≡ true
    by None p h = absurd (fault_none _ n h)
    by (Some m) p h = ap test (keeps.found x m p) ∙ unless_none (test (Some m.sort)) _ n h

-- the sort that a name has is that of its id
pub same_sort : (scope : Scope) → KeepsIds scope → (x : List ℕ) (n : ℕ) (test : Option Sort → Bool) → name_faults test (sort_of (named_in scope x)) n ≡ [] → sort_of (named_in scope x) ≡ sort_in scope (id_in scope x)
same_sort scope keeps x n test h = by (named_in scope x) refl h
  where
    by : (o : Option Named) → named_in scope x ≡ o → name_faults test (sort_of o) n ≡ [] → sort_of o ≡ sort_in scope (id_of o)
    by None p h = absurd (fault_none _ n h)
    by (Some m) p h = sym (keeps.found x m p)

record At (fs : List ConfigField) (n : ℕ) (p : ℕ × Kind) : Type 0 where
  place : ℕ
  number : p.0 ≡ n + place
  kind : field_kind fs place ≡ Some p.1

field_at : (n : ℕ) (fs : List ConfigField) (c x : List ℕ) (p : ℕ × Kind) → field_from n fs c x ≡ Some p → At fs n p
field_at n [] c x p h = cc
field_at n (f ∷ fs) c x p h = by (is_text f.config c && is_text f.name x) h (field_at (n + 1) fs c x p)
  where
    by : (t : Bool) → (if t then Some (n, f.kind) else field_from (n + 1) fs c x) ≡ Some p → (field_from (n + 1) fs c x ≡ Some p → At fs (n + 1) p) → At (f ∷ fs) n p
    by true h more =
        let same : (n, f.kind) ≡ p = cc in
        record { place = 0; number = let e = ap (λ q. q.0) same in omega arith; kind = ap (λ q. Some q.1) same }
    by false h more =
        let r = more h in
        record { place = suc r.place; number = let e = r.number in omega arith; kind = r.kind }

pub field_kept : (fields : List ConfigField) (c x : List ℕ) (p : ℕ × Kind) → field_in fields c x ≡ Some p → field_kind fields p.0 ≡ Some p.1
field_kept fields c x p h =
    let r = field_at 0 fields c x p h in
    let same : p.0 ≡ r.place = let e = r.number in omega arith in
    ap (field_kind fields) same ∙ r.kind

-- ---- control values

module _ (fields : List ConfigField) (may : Reads) (scope : Scope) (keeps : KeepsIds scope) where
  field_number_kept : (n : ℕ) (o : Option (ℕ × Kind)) (c x : List ℕ) → field_in fields c x ≡ o → field_faults false may.fields o n ≡ [] → (may.fields && is_number_field (field_kind fields) (field_kind fields (field_number o))) ≡ true
  field_number_kept n None c x p h = absurd (fault_none _ n h)
  field_number_kept n (Some f) c x p h =
      pair may.fields _ (unless_none may.fields _ n (right_none (unless (not (is_truth f.1)) _ n) _ h))
      (ap (is_number_field (field_kind fields)) (field_kept fields c x f p) ∙ unless_none (not (is_truth f.1)) _ n (left_none _ (unless may.fields _ n) h))

  field_flag_kept : (n : ℕ) (o : Option (ℕ × Kind)) (c x : List ℕ) → field_in fields c x ≡ o → field_faults true may.fields o n ≡ [] → (may.fields && is_flag_field (field_kind fields) (field_kind fields (field_number o))) ≡ true
  field_flag_kept n None c x p h = absurd (fault_none _ n h)
  field_flag_kept n (Some f) c x p h =
      pair may.fields _ (unless_none may.fields _ n (right_none (unless (is_truth f.1) _ n) _ h))
      (ap (is_flag_field (field_kind fields)) (field_kept fields c x f p) ∙ unless_none (is_truth f.1) _ n (left_none _ (unless may.fields _ n) h))

  dimension_kept : (sort : Option Sort) (k : Literal) (n m : ℕ) → is_buffer sort ≡ true → dimension_faults sort k n ≡ [] → has_dimension (number_of k) sort ≡ true
  dimension_kept None k n m b h = cc
  dimension_kept (Some (ControlName kind)) k n m b h = cc
  dimension_kept (Some (BufferName cell rank dense)) (Value k) n m b h = unless_none (nat_lt k rank) _ n h
  dimension_kept (Some (BufferName cell rank dense)) TooLarge n m b h = absurd (fault_none _ n h)

  literal_kept : (k : Literal) → is_small k ≡ true → is_control (field_kind fields) may scope (tree.Lit (pos (number_of k))) ≡ true
  literal_kept (Value k) h = pair _ _ (leb-zero k) h
  literal_kept TooLarge h = cc

  divisor_kept : (e : Tree) → fit e ≡ true → is_divisor e ≡ true → (is_control (field_kind fields) may scope (tree.Lit (pos (divisor_of e))) && nat_lt 0 (divisor_of e)) ≡ true
  divisor_kept (number (Value k)) f h = pair _ _ (literal_kept (Value k) f) h
  divisor_kept (number TooLarge) f h = cc
  divisor_kept (parens e) f h = divisor_kept e f h
  divisor_kept other f h = cc

  -- what stands in parentheses breaks no rule
  inner_kept : (n : ℕ) (e : Tree) (t : Bool) (A : Type 0) → (if t then control_faults fields may scope (n + 1) e else wrong_form fields scope n (parens e)) ≡ [] → (control_faults fields may scope (n + 1) e ≡ [] → A) → A
  inner_kept n e true A h rest = rest h
  inner_kept n e false A h rest = absurd (wrong_none fields scope n (parens e) h)

  -- without variables it is built of literals
  pub literals_kept : (n : ℕ) (e : Tree) → control_faults fields may scope n e ≡ [] → has_variables e ≡ false → is_of_literals (control_of fields scope e) ≡ true
  literals_kept n (number k) h v = refl
  literals_kept n (truth b) h v = absurd (wrong_none fields scope n (truth b) h)
  literals_kept n (variable x) h v = absurd (true≢false v)
  literals_kept n (access x is) h v = absurd (true≢false v)
  literals_kept n (field c x) h v = absurd (true≢false v)
  literals_kept n (stride x k) h v = absurd (true≢false v)
  literals_kept n (relu e) h v = absurd (wrong_none fields scope n (relu e) h)
  literals_kept n (select a b c d) h v = absurd (wrong_none fields scope n (select a b c d) h)
  literals_kept n (negative e) h v = literals_kept (n + 1) e h v
  literals_kept n (parens e) h v = inner_kept n e (may_be_control fields scope e) (is_of_literals (control_of fields scope e) ≡ true) h (λ p. literals_kept (n + 1) e p v)
  literals_kept n (binary o.Or l r) h v = absurd (wrong_none fields scope n (binary o.Or l r) h)
  literals_kept n (binary o.And l r) h v = absurd (wrong_none fields scope n (binary o.And l r) h)
  literals_kept n (binary o.Lt l r) h v = absurd (wrong_none fields scope n (binary o.Lt l r) h)
  literals_kept n (binary o.Le l r) h v = absurd (wrong_none fields scope n (binary o.Le l r) h)
  literals_kept n (binary o.Gt l r) h v = absurd (wrong_none fields scope n (binary o.Gt l r) h)
  literals_kept n (binary o.Ge l r) h v = absurd (wrong_none fields scope n (binary o.Ge l r) h)
  literals_kept n (binary o.Eq l r) h v = absurd (wrong_none fields scope n (binary o.Eq l r) h)
  literals_kept n (binary o.Add l r) h v =
      let p = parts_none (control_faults fields may scope n l ++ control_faults fields may scope (n + width l + 1) r) _ h in let w = neither (has_variables l) (has_variables r) v in
      pair _ _ (literals_kept n l (left_none (control_faults fields may scope n l) _ p.0) w.0) (literals_kept (n + width l + 1) r (right_none (control_faults fields may scope n l) _ p.0) w.1)
  literals_kept n (binary o.Sub l r) h v =
      let p = parts_none (control_faults fields may scope n l ++ control_faults fields may scope (n + width l + 1) r) _ h in let w = neither (has_variables l) (has_variables r) v in
      pair _ _ (literals_kept n l (left_none (control_faults fields may scope n l) _ p.0) w.0) (literals_kept (n + width l + 1) r (right_none (control_faults fields may scope n l) _ p.0) w.1)
  literals_kept n (binary o.Mul l r) h v =
      let p = parts_none (control_faults fields may scope n l ++ control_faults fields may scope (n + width l + 1) r) _ h in let w = neither (has_variables l) (has_variables r) v in
      pair _ _ (literals_kept n l (left_none (control_faults fields may scope n l) _ p.0) w.0) (literals_kept (n + width l + 1) r (right_none (control_faults fields may scope n l) _ p.0) w.1)
  literals_kept n (binary o.Div l r) h v =
      let p = parts_none (control_faults fields may scope n l ++ control_faults fields may scope (n + width l + 1) r) _ h in
      literals_kept n l (left_none (control_faults fields may scope n l) _ p.0) (neither (has_variables l) (has_variables r) v).0
  literals_kept n (binary o.Mod l r) h v =
      let p = parts_none (control_faults fields may scope n l ++ control_faults fields may scope (n + width l + 1) r) _ h in
      literals_kept n l (left_none (control_faults fields may scope n l) _ p.0) (neither (has_variables l) (has_variables r) v).0

  pub control_kept : (n : ℕ) (e : Tree) → fit e ≡ true → control_faults fields may scope n e ≡ [] → is_control (field_kind fields) may scope (control_of fields scope e) ≡ true
  control_kept n (number k) f h = literal_kept k f
  control_kept n (truth b) f h = absurd (wrong_none fields scope n (truth b) h)
  control_kept n (variable x) f h = named_kept scope keeps x is_number n h
  control_kept n (access x is) f h = absurd (wrong_none fields scope n (access x is) h)
  control_kept n (field c x) f h = field_number_kept n (field_in fields c x) c x refl h
  control_kept n (stride x k) f h =
      let p = parts_none (name_faults is_buffer (sort_of (named_in scope x)) (n + 2)) _ h in
      let d = left_none (dimension_faults (sort_of (named_in scope x)) k (n + 4)) _ p.1 in
      let s = right_none (dimension_faults (sort_of (named_in scope x)) k (n + 4)) _ p.1 in
      let same = same_sort scope keeps x (n + 2) is_buffer p.0 in
      pair may.strides _ (unless_none may.strides _ n s)
      (dimension_kept (sort_in scope (id_in scope x)) k (n + 4) n (named_kept scope keeps x is_buffer (n + 2) p.0) (ap (λ o. dimension_faults o k (n + 4)) (sym same) ∙ d))
  control_kept n (relu e) f h = absurd (wrong_none fields scope n (relu e) h)
  control_kept n (select a b c d) f h = absurd (wrong_none fields scope n (select a b c d) h)
  control_kept n (negative e) f h = control_kept (n + 1) e f h
  control_kept n (parens e) f h = inner_kept n e (may_be_control fields scope e) (is_control (field_kind fields) may scope (control_of fields scope e) ≡ true) h (control_kept (n + 1) e f)
  control_kept n (binary o.Or l r) f h = absurd (wrong_none fields scope n (binary o.Or l r) h)
  control_kept n (binary o.And l r) f h = absurd (wrong_none fields scope n (binary o.And l r) h)
  control_kept n (binary o.Lt l r) f h = absurd (wrong_none fields scope n (binary o.Lt l r) h)
  control_kept n (binary o.Le l r) f h = absurd (wrong_none fields scope n (binary o.Le l r) h)
  control_kept n (binary o.Gt l r) f h = absurd (wrong_none fields scope n (binary o.Gt l r) h)
  control_kept n (binary o.Ge l r) f h = absurd (wrong_none fields scope n (binary o.Ge l r) h)
  control_kept n (binary o.Eq l r) f h = absurd (wrong_none fields scope n (binary o.Eq l r) h)
  control_kept n (binary o.Add l r) f h =
      let p = parts_none (control_faults fields may scope n l ++ control_faults fields may scope (n + width l + 1) r) _ h in let s = both (fit l) (fit r) f in
      pair _ _ (control_kept n l s.0 (left_none (control_faults fields may scope n l) _ p.0)) (control_kept (n + width l + 1) r s.1 (right_none (control_faults fields may scope n l) _ p.0))
  control_kept n (binary o.Sub l r) f h =
      let p = parts_none (control_faults fields may scope n l ++ control_faults fields may scope (n + width l + 1) r) _ h in let s = both (fit l) (fit r) f in
      pair _ _ (control_kept n l s.0 (left_none (control_faults fields may scope n l) _ p.0)) (control_kept (n + width l + 1) r s.1 (right_none (control_faults fields may scope n l) _ p.0))
  control_kept n (binary o.Mul l r) f h =
      let p = parts_none (control_faults fields may scope n l ++ control_faults fields may scope (n + width l + 1) r) _ h in let s = both (fit l) (fit r) f in
      let a = left_none (control_faults fields may scope n l) _ p.0 in let b = right_none (control_faults fields may scope n l) _ p.0 in
      pair _ _ (pair _ _ (control_kept n l s.0 a) (control_kept (n + width l + 1) r s.1 b))
      (one_literal (has_variables l) (has_variables r) _ _ (unless_none (not (has_variables l && has_variables r)) _ _ p.1) (literals_kept n l a) (literals_kept (n + width l + 1) r b))
  control_kept n (binary o.Div l r) f h =
      let p = parts_none (control_faults fields may scope n l ++ control_faults fields may scope (n + width l + 1) r) _ h in let s = both (fit l) (fit r) f in
      pair _ _ (control_kept n l s.0 (left_none (control_faults fields may scope n l) _ p.0)) (divisor_kept r s.1 (unless_none (is_divisor r) _ _ p.1))
  control_kept n (binary o.Mod l r) f h =
      let p = parts_none (control_faults fields may scope n l ++ control_faults fields may scope (n + width l + 1) r) _ h in let s = both (fit l) (fit r) f in
      pair _ _ (control_kept n l s.0 (left_none (control_faults fields may scope n l) _ p.0)) (divisor_kept r s.1 (unless_none (is_divisor r) _ _ p.1))

  pub controls_kept : (n : ℕ) (es : List Tree) → list_all fit es ≡ true → controls_faults fields may scope n es ≡ [] → are_controls (field_kind fields) may scope (controls_of fields scope es) ≡ true
  controls_kept n [] f h = refl
  controls_kept n (e ∷ es) f h =
      let s = both (fit e) (list_all fit es) f in
      pair _ _ (control_kept n e s.0 (left_none (control_faults fields may scope n e) _ h)) (controls_kept (n + width e + 1) es s.1 (right_none (control_faults fields may scope n e) _ h))

  -- ---- conditions

  inner_condition : (n : ℕ) (e : Tree) (t : Bool) (A : Type 0) → (if t then condition_faults fields may scope (n + 1) e else wrong_form fields scope n (parens e)) ≡ [] → (condition_faults fields may scope (n + 1) e ≡ [] → A) → A
  inner_condition n e true A h rest = rest h
  inner_condition n e false A h rest = absurd (wrong_none fields scope n (parens e) h)

  truth_kept : (b : Bool) → is_condition (field_kind fields) may scope (truth_of b) ≡ true
  truth_kept true = refl
  truth_kept false = refl

  pub condition_kept : (n : ℕ) (e : Tree) → fit e ≡ true → condition_faults fields may scope n e ≡ [] → is_condition (field_kind fields) may scope (condition_of fields scope e) ≡ true
  condition_kept n (number k) f h = absurd (wrong_none fields scope n (number k) h)
  condition_kept n (truth b) f h = truth_kept b
  condition_kept n (variable x) f h = named_kept scope keeps x is_flag n h
  condition_kept n (access x is) f h = absurd (wrong_none fields scope n (access x is) h)
  condition_kept n (field c x) f h = field_flag_kept n (field_in fields c x) c x refl h
  condition_kept n (stride x k) f h = absurd (wrong_none fields scope n (stride x k) h)
  condition_kept n (relu e) f h = absurd (wrong_none fields scope n (relu e) h)
  condition_kept n (select a b c d) f h = absurd (wrong_none fields scope n (select a b c d) h)
  condition_kept n (negative e) f h = absurd (wrong_none fields scope n (negative e) h)
  condition_kept n (parens e) f h = inner_condition n e (may_be_condition fields scope e) (is_condition (field_kind fields) may scope (condition_of fields scope e) ≡ true) h (condition_kept (n + 1) e f)
  condition_kept n (binary o.Or l r) f h =
      let s = both (fit l) (fit r) f in
      pair _ _ (condition_kept n l s.0 (left_none (condition_faults fields may scope n l) _ h)) (condition_kept (n + width l + 1) r s.1 (right_none (condition_faults fields may scope n l) _ h))
  condition_kept n (binary o.And l r) f h =
      let s = both (fit l) (fit r) f in
      pair _ _ (condition_kept n l s.0 (left_none (condition_faults fields may scope n l) _ h)) (condition_kept (n + width l + 1) r s.1 (right_none (condition_faults fields may scope n l) _ h))
  condition_kept n (binary o.Lt l r) f h =
      let s = both (fit l) (fit r) f in
      pair _ _ (control_kept n l s.0 (left_none (control_faults fields may scope n l) _ h)) (control_kept (n + width l + 1) r s.1 (right_none (control_faults fields may scope n l) _ h))
  condition_kept n (binary o.Le l r) f h =
      let s = both (fit l) (fit r) f in
      pair _ _ (control_kept n l s.0 (left_none (control_faults fields may scope n l) _ h)) (control_kept (n + width l + 1) r s.1 (right_none (control_faults fields may scope n l) _ h))
  condition_kept n (binary o.Gt l r) f h =
      let s = both (fit l) (fit r) f in
      pair _ _ (control_kept n l s.0 (left_none (control_faults fields may scope n l) _ h)) (control_kept (n + width l + 1) r s.1 (right_none (control_faults fields may scope n l) _ h))
  condition_kept n (binary o.Ge l r) f h =
      let s = both (fit l) (fit r) f in
      pair _ _ (control_kept n l s.0 (left_none (control_faults fields may scope n l) _ h)) (control_kept (n + width l + 1) r s.1 (right_none (control_faults fields may scope n l) _ h))
  condition_kept n (binary o.Eq l r) f h =
      let s = both (fit l) (fit r) f in
      pair _ _ (control_kept n l s.0 (left_none (control_faults fields may scope n l) _ h)) (control_kept (n + width l + 1) r s.1 (right_none (control_faults fields may scope n l) _ h))
  condition_kept n (binary o.Add l r) f h = absurd (wrong_none fields scope n (binary o.Add l r) h)
  condition_kept n (binary o.Sub l r) f h = absurd (wrong_none fields scope n (binary o.Sub l r) h)
  condition_kept n (binary o.Mul l r) f h = absurd (wrong_none fields scope n (binary o.Mul l r) h)
  condition_kept n (binary o.Div l r) f h = absurd (wrong_none fields scope n (binary o.Div l r) h)
  condition_kept n (binary o.Mod l r) f h = absurd (wrong_none fields scope n (binary o.Mod l r) h)

-- ---- values of cells

module _ (fields : List ConfigField) (scope : Scope) (keeps : KeepsIds scope) where
  rank_kept : (sort : Option Sort) (r n : ℕ) → is_buffer sort ≡ true → rank_faults sort r n ≡ [] → has_rank r sort ≡ true
  rank_kept None r n b h = cc
  rank_kept (Some (ControlName kind)) r n b h = cc
  rank_kept (Some (BufferName cell rank dense)) r n b h = turned rank r (unless_none (rank == r) _ n h)
    where
      turned : (a b : ℕ) → (a == b) ≡ true → (b == a) ≡ true
      turned a b h = (Decides-eqb b a).1 (sym ((Decides-eqb a b).0 h))

  -- a name that is a buffer of that rank
  pub buffer_kept : (x : List ℕ) (test : Option Sort → Bool) (r n : ℕ) → ((s : Option Sort) → test s ≡ true → is_buffer s ≡ true) → name_faults test (sort_of (named_in scope x)) n ≡ [] → rank_faults (sort_of (named_in scope x)) r n ≡ [] → has_rank r (sort_in scope (id_in scope x)) ≡ true
  buffer_kept x test r n only h k =
      rank_kept (sort_in scope (id_in scope x)) r n (only _ (named_kept scope keeps x test n h)) (ap (λ s. rank_faults s r n) (sym (same_sort scope keeps x n test h)) ∙ k)

  all_listed : (is : Trees) → all_fit is ≡ true → list_all fit (list_of is) ≡ true
  all_listed end f = refl
  all_listed (next e more) f = let s = both (fit e) (all_fit more) f in pair _ _ s.0 (all_listed more s.1)

  read_kept : (n : ℕ) (x : List ℕ) (es : List Tree) → list_all fit es ≡ true → read_faults fields scope n x es ≡ [] → is_access (field_kind fields) scope (id_in scope x) (controls_of fields scope es) ≡ true
  read_kept n x es f h =
      let p = parts_none (name_faults is_buffer (sort_of (named_in scope x)) n ++ controls_faults fields plainly scope (n + 2) es) _ h in
      pair _ _
      (ap (λ k. has_rank k (sort_in scope (id_in scope x))) (length-map es (control_of fields scope)) ∙ buffer_kept x is_buffer (length es) n (λ s t. t) (left_none (name_faults is_buffer (sort_of (named_in scope x)) n) _ p.0) p.1)
      (controls_kept fields plainly scope keeps (n + 2) es f (right_none (name_faults is_buffer (sort_of (named_in scope x)) n) _ p.0))

  inner_data : (n : ℕ) (e : Tree) (t : Bool) (A : Type 0) → (if t then data_faults fields scope (n + 1) e else wrong_form fields scope n (parens e)) ≡ [] → (data_faults fields scope (n + 1) e ≡ [] → A) → A
  inner_data n e true A h rest = rest h
  inner_data n e false A h rest = absurd (wrong_none fields scope n (parens e) h)

  pub data_kept : (n : ℕ) (e : Tree) → fit e ≡ true → data_faults fields scope n e ≡ [] → is_datum (field_kind fields) scope (datum_of fields scope e) ≡ true
  data_kept n (number k) f h = literal_kept fields plainly scope keeps k f
  data_kept n (truth b) f h = absurd (wrong_none fields scope n (truth b) h)
  data_kept n (variable x) f h = read_kept n x [] refl h
  data_kept n (access x is) f h = read_kept n x (list_of is) (all_listed is f) h
  data_kept n (field c x) f h = absurd (wrong_none fields scope n (field c x) h)
  data_kept n (stride x k) f h = absurd (wrong_none fields scope n (stride x k) h)
  data_kept n (relu e) f h = data_kept (n + 2) e f h
  data_kept n (select a b c d) f h =
      let s = both (fit a && fit b) (fit c && fit d) f in
      let u = both (fit a) (fit b) s.0 in
      let v = both (fit c) (fit d) s.1 in
      let second = n + 2 + width a + 1 in
      let third = second + width b + 1 in
      let fourth = third + width c + 1 in
      let p = right_none (data_faults fields scope (n + 2) a) _ h in
      let q = right_none (data_faults fields scope second b) _ p in
      pair _ _
      (pair _ _ (data_kept (n + 2) a u.0 (left_none (data_faults fields scope (n + 2) a) _ h)) (data_kept second b u.1 (left_none (data_faults fields scope second b) _ p)))
      (pair _ _ (data_kept third c v.0 (left_none (data_faults fields scope third c) _ q)) (data_kept fourth d v.1 (right_none (data_faults fields scope third c) _ q)))
  data_kept n (negative e) f h = data_kept (n + 1) e f h
  data_kept n (parens e) f h = inner_data n e (may_be_data fields scope e) (is_datum (field_kind fields) scope (datum_of fields scope e) ≡ true) h (data_kept (n + 1) e f)
  data_kept n (binary o.Or l r) f h = absurd (wrong_none fields scope n (binary o.Or l r) h)
  data_kept n (binary o.And l r) f h = absurd (wrong_none fields scope n (binary o.And l r) h)
  data_kept n (binary o.Lt l r) f h = absurd (wrong_none fields scope n (binary o.Lt l r) h)
  data_kept n (binary o.Le l r) f h = absurd (wrong_none fields scope n (binary o.Le l r) h)
  data_kept n (binary o.Gt l r) f h = absurd (wrong_none fields scope n (binary o.Gt l r) h)
  data_kept n (binary o.Ge l r) f h = absurd (wrong_none fields scope n (binary o.Ge l r) h)
  data_kept n (binary o.Eq l r) f h = absurd (wrong_none fields scope n (binary o.Eq l r) h)
  data_kept n (binary o.Div l r) f h = absurd (wrong_none fields scope n (binary o.Div l r) h)
  data_kept n (binary o.Mod l r) f h = absurd (wrong_none fields scope n (binary o.Mod l r) h)
  data_kept n (binary o.Add l r) f h =
      let s = both (fit l) (fit r) f in
      pair _ _ (data_kept n l s.0 (left_none (data_faults fields scope n l) _ h)) (data_kept (n + width l + 1) r s.1 (right_none (data_faults fields scope n l) _ h))
  data_kept n (binary o.Sub l r) f h =
      let s = both (fit l) (fit r) f in
      pair _ _ (data_kept n l s.0 (left_none (data_faults fields scope n l) _ h)) (data_kept (n + width l + 1) r s.1 (right_none (data_faults fields scope n l) _ h))
  data_kept n (binary o.Mul l r) f h =
      let s = both (fit l) (fit r) f in
      pair _ _ (data_kept n l s.0 (left_none (data_faults fields scope n l) _ h)) (data_kept (n + width l + 1) r s.1 (right_none (data_faults fields scope n l) _ h))

  coordinate_kept : (n : ℕ) (c : Coordinate) → coordinate_fits c ≡ true → coordinate_faults fields scope n c ≡ [] → is_coord (field_kind fields) scope (coordinate_of fields scope c) ≡ true
  coordinate_kept n (point e) f h = control_kept fields plainly scope keeps n e f h
  coordinate_kept n (span a b) f h =
      let s = both (fit a) (fit b) f in
      pair _ _ (control_kept fields plainly scope keeps n a s.0 (left_none (control_faults fields plainly scope n a) _ h)) (control_kept fields plainly scope keeps (n + width a + 1) b s.1 (right_none (control_faults fields plainly scope n a) _ h))

  coordinates_kept : (n : ℕ) (cs : List Coordinate) → list_all coordinate_fits cs ≡ true → coordinates_faults fields scope n cs ≡ [] → list_all (is_coord (field_kind fields) scope) (coordinates_of fields scope cs) ≡ true
  coordinates_kept n [] f h = refl
  coordinates_kept n (c ∷ cs) f h =
      let s = both (coordinate_fits c) (list_all coordinate_fits cs) f in
      pair _ _ (coordinate_kept n c s.0 (left_none (coordinate_faults fields scope n c) _ h)) (coordinates_kept (n + coordinate_width c + 1) cs s.1 (right_none (coordinate_faults fields scope n c) _ h))

  pub window_kept : (test : Option Sort → Bool) (n : ℕ) (x : List ℕ) (cs : List Coordinate) → ((s : Option Sort) → test s ≡ true → is_buffer s ≡ true) → list_all coordinate_fits cs ≡ true → window_faults fields test scope n x cs ≡ [] → is_window (field_kind fields) scope (id_in scope x) (coordinates_of fields scope cs) ≡ true
  window_kept test n x cs only f h =
      let p = right_none (name_faults test (sort_of (named_in scope x)) n) _ h in
      pair _ _
      (ap (λ k. has_rank k (sort_in scope (id_in scope x))) (length-map cs (coordinate_of fields scope)) ∙ buffer_kept x test (length cs) n only (left_none (name_faults test (sort_of (named_in scope x)) n) _ h) (left_none (rank_faults (sort_of (named_in scope x)) (length cs) n) _ p))
      (coordinates_kept (n + 2) cs f (right_none (rank_faults (sort_of (named_in scope x)) (length cs) n) _ p))

-- ---- scopes

not_or : (a b : Bool) → not (a || b) ≡ true → (a ≡ false) × (b ≡ false)
not_or false false h = (refl, refl)
not_or false true h = absurd (true≢false (sym h))
not_or true b h = absurd (true≢false (sym h))

differ_turned : (a b : ℕ) → (a == b) ≡ false → (b == a) ≡ false
differ_turned a b h = by (b == a) refl
  where
    by : (t : Bool) → (b == a) ≡ t → (b == a) ≡ false
    by true p = absurd (true≢false (sym ((Decides-eqb a b).1 (sym ((Decides-eqb b a).0 p))) ∙ h))
    by false p = p

-- what a name stands for is in scope, so a new id is another one
apart_ids : (scope : Scope) (b : Binder) (x : List ℕ) (n : Named) → is_new scope b ≡ true → named_in scope x ≡ Some n → (n.binder.id == b.id) ≡ false
apart_ids [] b x n h p = cc
apart_ids (m ∷ scope) b x n h p =
    let s = not_or ((b.id == m.binder.id) || is_text b.name m.binder.name) (list_any (λ k. (b.id == k.binder.id) || is_text b.name k.binder.name) scope) h in
    by (is_text m.binder.name x) p (differ_turned b.id m.binder.id (neither (b.id == m.binder.id) (is_text b.name m.binder.name) s.0).0) (apart_ids scope b x n (ap not s.1))
  where
    by : (t : Bool) → (if t then Some m else named_in scope x) ≡ Some n → (m.binder.id == b.id) ≡ false → (named_in scope x ≡ Some n → (n.binder.id == b.id) ≡ false) → (n.binder.id == b.id) ≡ false
    by true p here rest = let same : m ≡ n = cc in ap (λ k. k.binder.id == b.id) (sym same) ∙ here
    by false p here rest = rest p

pub scope_kept : (scope : Scope) (b : Binder) (sort : Sort) → KeepsIds scope → is_new scope b ≡ true → KeepsIds (with_name scope b sort)
scope_kept scope b sort keeps h = record { found = λ x n p. by x n (is_text b.name x) p }
  where
    by : (x : List ℕ) (n : Named) (t : Bool) → (if t then Some (record { binder = b; sort = sort }) else named_in scope x) ≡ Some n → (if n.binder.id == b.id then Some sort else sort_in scope n.binder.id) ≡ Some n.sort
    by x n true p =
        let fresh : Named = record { binder = b; sort = sort } in let same : fresh ≡ n = cc in
        ap (λ t. if t then Some sort else sort_in scope n.binder.id) ((Decides-eqb n.binder.id b.id).1 (ap (λ k. k.binder.id) (sym same))) ∙ ap (λ k. Some k.sort) same
    by x n false p = ap (λ t. if t then Some sort else sort_in scope n.binder.id) (apart_ids scope b x n h p) ∙ keeps.found x n p
