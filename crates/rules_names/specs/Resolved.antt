-- Source trees with their names resolved: what an expression of a text is as a tree of a procedure.
-- Parentheses are gone. What the rules on expressions refuse stands for some tree here, which
-- nobody sees.
use Rattle.std.specs.Prelude.{ℕ, pos, Bool, true, false, if◌then◌else◌, List, [], map, Option, Some}
use Rattle.std.specs.Prelude.{None}
use Rattle.exo_tree.specs.Tree as tree
use Rattle.exo_tree.specs.Tree.{Kind, ConfigField, Control, Condition, Datum}
use Rattle.exo_meaning.specs.Units.{Scope}
use Rattle.text_lexer.specs.declared.token.Literal.{Literal}
use Rattle.text_lexer.specs.declared.token.Literal.TheVariants.{Value, TooLarge}
use Rattle.text_expressions.specs.declared.source.Infix.{Infix}
use Rattle.text_expressions.specs.declared.source.Infix.TheVariants as o
use Rattle.text_expressions.specs.Expression.{Tree, number, truth, variable, access, field, stride}
use Rattle.text_expressions.specs.Expression.{relu, select, negative, parens, binary}
use Rattle.rules_names.specs.Names.{id_in, field_in, no_id}
use Rattle.rules_names.specs.ExpressionRules.{joins_conditions, list_of}

abbrev pub number_of : Literal → ℕ
number_of (Value n) = n
number_of TooLarge = 0

abbrev pub field_number : Option (ℕ × Kind) → ℕ
field_number None = no_id
field_number (Some f) = f.0

abbrev pub divisor_of : Tree → ℕ
divisor_of (number n) = number_of n
divisor_of (parens e) = divisor_of e
divisor_of other = 0

-- an operator between two control values; what divides is a literal
abbrev pub joined : Infix → Control → Control → ℕ → Control
joined o.Add a b k = tree.Add a b
joined o.Sub a b k = tree.Sub a b
joined o.Mul a b k = tree.Mul a b
joined o.Div a b k = tree.Div a (pos k)
joined o.Mod a b k = tree.Mod a (pos k)
joined other a b k = tree.Lit (pos 0)

abbrev pub compared : Infix → Control → Control → Condition
compared o.Lt a b = tree.Lt a b
compared o.Le a b = tree.Le a b
compared o.Gt a b = tree.Gt a b
compared o.Ge a b = tree.Ge a b
compared o.Eq a b = tree.Eq a b
compared other a b = tree.False

abbrev pub joined_conditions : Infix → Condition → Condition → Condition
joined_conditions o.Or a b = tree.Or a b
joined_conditions o.And a b = tree.And a b
joined_conditions other a b = tree.False

abbrev pub joined_data : Infix → Datum → Datum → Datum
joined_data o.Add a b = tree.Plus a b
joined_data o.Sub a b = tree.Minus a b
joined_data o.Mul a b = tree.Times a b
joined_data other a b = tree.Const (pos 0)

abbrev pub truth_of : Bool → Condition
truth_of true = tree.True
truth_of false = tree.False

module _ (fields : List ConfigField) where
  abbrev pub control_of : Scope → Tree → Control
  control_of scope (number n) = tree.Lit (pos (number_of n))
  control_of scope (variable x) = tree.Var (id_in scope x)
  control_of scope (field c x) = tree.Field (field_number (field_in fields c x))
  control_of scope (stride x k) = tree.StrideOf (id_in scope x) (number_of k)
  control_of scope (negative e) = tree.Neg (control_of scope e)
  control_of scope (parens e) = control_of scope e
  control_of scope (binary operator l r) =
      joined operator (control_of scope l) (control_of scope r) (divisor_of r)
  control_of scope other = tree.Lit (pos 0)

  abbrev pub condition_of : Scope → Tree → Condition
  condition_of scope (truth b) = truth_of b
  condition_of scope (variable x) = tree.Flag (id_in scope x)
  condition_of scope (field c x) = tree.FieldFlag (field_number (field_in fields c x))
  condition_of scope (parens e) = condition_of scope e
  condition_of scope (binary operator l r) =
      if joins_conditions operator
      then joined_conditions operator (condition_of scope l) (condition_of scope r)
      else compared operator (control_of scope l) (control_of scope r)
  condition_of scope other = tree.False

  abbrev pub controls_of : Scope → List Tree → List Control
  controls_of scope es = map (control_of scope) es

  abbrev pub datum_of : Scope → Tree → Datum
  datum_of scope (number n) = tree.Const (pos (number_of n))
  datum_of scope (variable x) = tree.Read (id_in scope x) []
  datum_of scope (access x is) = tree.Read (id_in scope x) (controls_of scope (list_of is))
  datum_of scope (relu e) = tree.Relu (datum_of scope e)
  datum_of scope (select a b c d) =
      tree.Select (datum_of scope a) (datum_of scope b) (datum_of scope c) (datum_of scope d)
  datum_of scope (negative e) = tree.Negated (datum_of scope e)
  datum_of scope (parens e) = datum_of scope e
  datum_of scope (binary operator l r) = joined_data operator (datum_of scope l) (datum_of scope r)
  datum_of scope other = tree.Const (pos 0)
