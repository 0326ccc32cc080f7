-- The forms of expressions in the strings of a schedule, and what refuses such a string.
use Rattle.std.specs.Prelude.{◌≡◌, nat_lt, Bool, true, false, ◌&&◌, List, is_some}
use Rattle.exo_tree.specs.Tree.{ConfigField}
use Rattle.text_lexer.specs.declared.token.Literal.TheVariants.{Value}
use Rattle.text_expressions.specs.declared.source.Infix.{Infix}
use Rattle.text_expressions.specs.declared.source.Infix.TheVariants as o
use Rattle.text_expressions.specs.Expression.{Tree, number, truth, variable, field, stride}
use Rattle.text_expressions.specs.Expression.{negative, parens, binary}
use Rattle.exo_reader.specs.Source.{Coordinate, point, span}
use Rattle.rules_names.specs.declared.argument.ArgError.{ArgError}
use Rattle.rules_names.specs.declared.argument.ArgError.TheVariants.{Memory, NotOfForm, UnknownName}
use Rattle.rules_names.specs.Names.{field_in}

-- a literal from 1 on, without parentheses
abbrev pub is_count : Tree → Bool
is_count (number (Value n)) = nat_lt 0 n
is_count other = false

-- two sides of an operator between control values: those of a sum or a product, or one that a
-- literal divides
abbrev pub sides_form : Infix → Bool → Bool → Bool → Bool
sides_form o.Add l r counts = l && r
sides_form o.Sub l r counts = l && r
sides_form o.Mul l r counts = l && r
sides_form o.Div l r counts = l && counts
sides_form o.Mod l r counts = l && counts
sides_form other l r counts = false

-- of literals, names, fields, strides, sums, products, and quotients by a literal; products need no
-- literal side
abbrev pub is_control_form : Tree → Bool
is_control_form (number n) = true
is_control_form (variable x) = true
is_control_form (field c x) = true
is_control_form (stride x k) = true
is_control_form (negative e) = is_control_form e
is_control_form (parens e) = is_control_form e
is_control_form (binary operator l r) =
    sides_form operator (is_control_form l) (is_control_form r) (is_count r)
is_control_form other = false

-- two sides of an operator between conditions, or of a comparison
abbrev pub condition_sides : Infix → Bool → Bool → Bool
condition_sides o.Or conditions controls = conditions
condition_sides o.And conditions controls = conditions
condition_sides o.Lt conditions controls = controls
condition_sides o.Le conditions controls = controls
condition_sides o.Gt conditions controls = controls
condition_sides o.Ge conditions controls = controls
condition_sides o.Eq conditions controls = controls
condition_sides other conditions controls = false

-- of comparisons of control values, `and`, `or`, truth values, names and fields
abbrev pub is_condition_form : Tree → Bool
is_condition_form (truth b) = true
is_condition_form (variable x) = true
is_condition_form (field c x) = true
is_condition_form (parens e) = is_condition_form e
is_condition_form (binary operator l r) =
    condition_sides operator (is_condition_form l && is_condition_form r)
    (is_control_form l && is_control_form r)
is_condition_form other = false

-- each field that is named is one of these
abbrev pub knows_fields : List ConfigField → Tree → Bool
knows_fields fields (field c x) = is_some (field_in fields c x)
knows_fields fields (negative e) = knows_fields fields e
knows_fields fields (parens e) = knows_fields fields e
knows_fields fields (binary operator l r) = knows_fields fields l && knows_fields fields r
knows_fields fields other = true

abbrev pub is_coordinate_form : Coordinate → Bool
is_coordinate_form (point e) = is_control_form e
is_coordinate_form (span a b) = is_control_form a && is_control_form b

abbrev pub knows_coordinate : List ConfigField → Coordinate → Bool
knows_coordinate fields (point e) = knows_fields fields e
knows_coordinate fields (span a b) = knows_fields fields a && knows_fields fields b

-- why a string is refused: it is of another form, or else a field in it is none
abbrev pub IsRefused : Bool → Bool → ArgError → Type 0
IsRefused form knows Memory = Unit {0}
IsRefused form knows NotOfForm = form ≡ false
IsRefused form knows UnknownName = (form ≡ true) × (knows ≡ false)

-- why it is taken
pub record IsTaken (form knows : Bool) : Type 0 where
  pub is_of_form : form ≡ true
  pub is_known : knows ≡ true
