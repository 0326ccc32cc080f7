-- What breaks no rule keeps, as a tree, the rules of a well-formed unit.
use Rattle.std.specs.Prelude.{◌≡◌, ◌^◌, ℕ, nat_lt, Bool, true, false, ◌&&◌, List, Option, Some}
use Rattle.std.specs.Prelude.{None}
use Rattle.std.specs.List.{list_all}
use Rattle.exo_tree.specs.Tree.{ConfigField}
use Rattle.exo_meaning.specs.Units.{Named, Scope, Reads, Sort, sort_in, is_control, are_controls}
use Rattle.exo_meaning.specs.Units.{is_condition, is_datum, is_window, field_kind, is_new}
use Rattle.exo_meaning.specs.Units.{with_name}
use Rattle.exo_tree.specs.Tree.{Binder}
use Rattle.text_lexer.specs.declared.token.Literal.{Literal}
use Rattle.text_lexer.specs.declared.token.Literal.TheVariants.{Value, TooLarge}
use Rattle.text_expressions.specs.Expression.{Tree, Trees, number, truth, variable, access, field}
use Rattle.text_expressions.specs.Expression.{stride, relu, select, negative, parens, binary, end}
use Rattle.text_expressions.specs.Expression.{next}
use Rattle.exo_reader.specs.Source.{Coordinate, point, span}
use Rattle.rules_names.specs.Faults.{least}
use Rattle.rules_names.specs.Names.{named_in, id_in}
use Rattle.rules_names.specs.ExpressionRules.{is_buffer, control_faults, controls_faults}
use Rattle.rules_names.specs.ExpressionRules.{condition_faults, data_faults}
use Rattle.rules_names.specs.Resolved.{control_of, controls_of, condition_of, datum_of}
use Rattle.rules_names.specs.WindowRules.{window_faults, coordinates_of}

-- a name in scope is found by its id too
pub record KeepsIds (scope : Scope) : Type 0 where
  pub found :
      (x : List ℕ) (n : Named) → named_in scope x ≡ Some n → sort_in scope n.binder.id ≡ Some n.sort

abbrev pub is_small : Literal → Bool
is_small (Value k) = nat_lt k (2 ^ 31)
is_small TooLarge = false

-- the literals are below 2^31
abbrev mutual
  pub fit : Tree → Bool
  fit (number k) = is_small k
  fit (truth b) = true
  fit (variable x) = true
  fit (access x is) = all_fit is
  fit (field c x) = true
  fit (stride x k) = true
  fit (relu e) = fit e
  fit (select a b c d) = (fit a && fit b) && (fit c && fit d)
  fit (negative e) = fit e
  fit (parens e) = fit e
  fit (binary o l r) = fit l && fit r

  pub all_fit : Trees → Bool
  all_fit end = true
  all_fit (next e more) = fit e && all_fit more

abbrev pub coordinate_fits : Coordinate → Bool
coordinate_fits (point e) = fit e
coordinate_fits (span a b) = fit a && fit b

abbrev pub ControlsKeepRules : Type 0
ControlsKeepRules =
    (fields : List ConfigField) (may : Reads) (scope : Scope) (n : ℕ) (e : Tree)
    → KeepsIds scope
    → fit e ≡ true
    → least (control_faults fields may scope n e) ≡ None
    → is_control (field_kind fields) may scope (control_of fields scope e) ≡ true

abbrev pub ListsKeepRules : Type 0
ListsKeepRules =
    (fields : List ConfigField) (may : Reads) (scope : Scope) (n : ℕ) (es : List Tree)
    → KeepsIds scope
    → list_all fit es ≡ true
    → least (controls_faults fields may scope n es) ≡ None
    → are_controls (field_kind fields) may scope (controls_of fields scope es) ≡ true

abbrev pub ConditionsKeepRules : Type 0
ConditionsKeepRules =
    (fields : List ConfigField) (may : Reads) (scope : Scope) (n : ℕ) (e : Tree)
    → KeepsIds scope
    → fit e ≡ true
    → least (condition_faults fields may scope n e) ≡ None
    → is_condition (field_kind fields) may scope (condition_of fields scope e) ≡ true

abbrev pub DataKeepRules : Type 0
DataKeepRules =
    (fields : List ConfigField) (scope : Scope) (n : ℕ) (e : Tree)
    → KeepsIds scope
    → fit e ≡ true
    → least (data_faults fields scope n e) ≡ None
    → is_datum (field_kind fields) scope (datum_of fields scope e) ≡ true

-- what passes a test that only buffers pass
abbrev pub WindowsKeepRules : Type 0
WindowsKeepRules =
    (fields : List ConfigField) (test : Option Sort → Bool) (scope : Scope) (n : ℕ) (x : List ℕ)
    (cs : List Coordinate)
    → KeepsIds scope
    → ((s : Option Sort) → test s ≡ true → is_buffer s ≡ true)
    → list_all coordinate_fits cs ≡ true
    → least (window_faults fields test scope n x cs) ≡ None
    → is_window (field_kind fields) scope (id_in scope x) (coordinates_of fields scope cs) ≡ true

-- a new name keeps it so
abbrev pub ScopesKeepIds : Type 0
ScopesKeepIds =
    (scope : Scope) (b : Binder) (sort : Sort)
    → KeepsIds scope
    → is_new scope b ≡ true
    → KeepsIds (with_name scope b sort)
