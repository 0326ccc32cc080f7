-- The rules on expressions. An expression whose outermost form cannot be of the kind that its place
-- asks is charged at its first token, whatever stands inside; else its parts are tested, and then
-- the whole. Parentheses are looked through for the form, and a name or a field of a wrong kind in
-- parentheses is charged at the outermost one.
use Rattle.std.specs.Prelude.{ℕ, suc, ◌+◌, ◌==◌, nat_lt, Bool, true, false, not, ◌&&◌, ◌||◌}
use Rattle.std.specs.Prelude.{if◌then◌else◌, List, [], ◌∷◌, ◌++◌, length, Option, Some, None}
use Rattle.exo_tree.specs.Tree.{Kind, ConfigField}
use Rattle.exo_meaning.specs.Units.{Sort, ControlName, BufferName, Scope, Reads, plainly, is_truth}
use Rattle.exo_meaning.specs.Units.{is_number, is_flag}
use Rattle.text_lexer.specs.declared.token.Literal.{Literal}
use Rattle.text_lexer.specs.declared.token.Literal.TheVariants.{Value, TooLarge}
use Rattle.text_expressions.specs.declared.source.Infix.{Infix}
use Rattle.text_expressions.specs.declared.source.Infix.TheVariants.{Or, And}
use Rattle.text_expressions.specs.declared.source.Infix.TheVariants.{Add, Sub, Mul, Div, Mod}
use Rattle.text_expressions.specs.Expression.{Tree, Trees, number, truth, variable, access, field}
use Rattle.text_expressions.specs.Expression.{stride, relu, select, negative, parens, binary, end}
use Rattle.text_expressions.specs.Expression.{next, spelling}
use Rattle.rules_names.specs.declared.error.TypeKind.TheVariants.{UnknownName, KindMismatch}
use Rattle.rules_names.specs.declared.error.TypeKind.TheVariants.{RankMismatch, NotAffine}
use Rattle.rules_names.specs.declared.error.TypeKind.TheVariants.{ConfigPlace, StridePlace}
use Rattle.rules_names.specs.declared.fault.Fault.{Fault}
use Rattle.rules_names.specs.Faults.{fault, unless, parts_then_whole}
use Rattle.rules_names.specs.Names.{named_in, sort_of, field_in}

-- how many tokens an expression has
unfoldable pub width : Tree → ℕ
width e = length (spelling e)

-- a list of expressions with a comma between two, and the bracket that closes it
abbrev pub commas_width : List Tree → ℕ
commas_width [] = 0
commas_width (e ∷ es) = width e + suc (commas_width es)

abbrev pub closed_width : List Tree → ℕ
closed_width [] = 1
closed_width (e ∷ es) = commas_width (e ∷ es)

-- ---- forms

-- sums, products, quotients; comparisons and what joins conditions
abbrev pub is_arithmetic : Infix → Bool
is_arithmetic Add = true
is_arithmetic Sub = true
is_arithmetic Mul = true
is_arithmetic Div = true
is_arithmetic Mod = true
is_arithmetic _ = false

abbrev pub is_quotient : Infix → Bool
is_quotient Div = true
is_quotient Mod = true
is_quotient other = false

abbrev pub joins_conditions : Infix → Bool
joins_conditions Or = true
joins_conditions And = true
joins_conditions other = false

-- variables, fields and strides all count as variables
abbrev pub has_variables : Tree → Bool
has_variables (number n) = false
has_variables (truth b) = false
has_variables (variable x) = true
has_variables (access x is) = true
has_variables (field c x) = true
has_variables (stride x k) = true
has_variables (relu e) = has_variables e
has_variables (select a b c d) =
    has_variables a || has_variables b || has_variables c || has_variables d
has_variables (negative e) = has_variables e
has_variables (parens e) = has_variables e
has_variables (binary operator l r) = has_variables l || has_variables r

-- a literal from 1 on
abbrev pub is_divisor : Tree → Bool
is_divisor (number (Value n)) = nat_lt 0 n
is_divisor (parens e) = is_divisor e
is_divisor other = false

-- ---- names

-- a name that is not in scope, or that fails a test of what it stands for
abbrev pub name_faults : (Option Sort → Bool) → Option Sort → ℕ → List Fault
name_faults fits None n = fault UnknownName n
name_faults fits (Some sort) n = unless (fits (Some sort)) KindMismatch n

-- a name that is not in scope, or that passes such a test
abbrev pub suits : (Option Sort → Bool) → Option Sort → Bool
suits fits None = true
suits fits (Some sort) = fits (Some sort)

abbrev pub is_buffer : Option Sort → Bool
is_buffer None = false
is_buffer (Some (ControlName kind)) = false
is_buffer (Some (BufferName cell rank dense)) = true

-- a buffer of another rank; what is no buffer breaks another rule
abbrev pub rank_faults : Option Sort → ℕ → ℕ → List Fault
rank_faults None r n = []
rank_faults (Some (ControlName kind)) r n = []
rank_faults (Some (BufferName cell rank dense)) r n = unless (rank == r) RankMismatch n

abbrev pub is_below : Literal → ℕ → Bool
is_below TooLarge rank = false
is_below (Value k) rank = nat_lt k rank

-- a buffer without that dimension
abbrev pub dimension_faults : Option Sort → Literal → ℕ → List Fault
dimension_faults None k n = []
dimension_faults (Some (ControlName kind)) k n = []
dimension_faults (Some (BufferName cell rank dense)) k n = unless (is_below k rank) RankMismatch n

-- a field that there is none of, one of the other kind, and one where none may be read
abbrev pub field_faults : Bool → Bool → Option (ℕ × Kind) → ℕ → List Fault
field_faults wants_truth may None n = fault UnknownName n
field_faults true may (Some f) n = unless (is_truth f.1) KindMismatch n ++ unless may ConfigPlace n
field_faults false may (Some f) n =
    unless (not (is_truth f.1)) KindMismatch n ++ unless may ConfigPlace n

-- a field that there is none of, or one of the kind that is asked
abbrev pub field_suits : Bool → Option (ℕ × Kind) → Bool
field_suits wants_truth None = true
field_suits true (Some f) = is_truth f.1
field_suits false (Some f) = not (is_truth f.1)

-- a list of indices as a list
abbrev pub list_of : Trees → List Tree
list_of end = []
list_of (next e more) = e ∷ list_of more

-- A product has one side without variables, and what divides is a literal. Told are whether both
-- sides have variables, and whether the right one is such a literal; right is its first token.
abbrev pub affine_faults : Infix → ℕ → ℕ → Bool → Bool → List Fault
affine_faults Mul n right vary divides = unless (not vary) NotAffine n
affine_faults Div n right vary divides = unless divides NotAffine right
affine_faults Mod n right vary divides = unless divides NotAffine right
affine_faults other n right vary divides = []

-- ---- forms that cannot be what is asked

-- a field that there is none of
abbrev pub no_such_field : Option (ℕ × Kind) → ℕ → List Fault
no_such_field None n = fault UnknownName n
no_such_field (Some f) n = []

module _ (fields : List ConfigField) where
  -- the first token is a name that stands for nothing
  abbrev pub unknown_first : Scope → ℕ → Tree → List Fault
  unknown_first scope n (number k) = []
  unknown_first scope n (truth b) = []
  unknown_first scope n (variable x) = name_faults (λ sort. true) (sort_of (named_in scope x)) n
  unknown_first scope n (access x is) = name_faults (λ sort. true) (sort_of (named_in scope x)) n
  unknown_first scope n (field c x) = no_such_field (field_in fields c x) n
  unknown_first scope n (stride x k) = []
  unknown_first scope n (relu e) = []
  unknown_first scope n (select a b c d) = []
  unknown_first scope n (negative e) = []
  unknown_first scope n (parens e) = []
  unknown_first scope n (binary operator l r) = unknown_first scope n l

  -- an expression whose form cannot be of the kind that is asked, whatever stands inside; its first
  -- token may be an unknown name too
  abbrev pub wrong_form : Scope → ℕ → Tree → List Fault
  wrong_form scope n e = unknown_first scope n e ++ fault KindMismatch n

  -- ---- what may stand in parentheses

  -- An expression can be a control value by its form, and a name or a field alone by what it stands
  -- for.
  abbrev pub may_be_control : Scope → Tree → Bool
  may_be_control scope (number n) = true
  may_be_control scope (truth b) = false
  may_be_control scope (variable x) = suits is_number (sort_of (named_in scope x))
  may_be_control scope (access x is) = false
  may_be_control scope (field c x) = field_suits false (field_in fields c x)
  may_be_control scope (stride x k) = true
  may_be_control scope (relu e) = false
  may_be_control scope (select a b c d) = false
  may_be_control scope (negative e) = true
  may_be_control scope (parens e) = may_be_control scope e
  may_be_control scope (binary operator l r) = is_arithmetic operator

  -- and a condition
  abbrev pub may_be_condition : Scope → Tree → Bool
  may_be_condition scope (number n) = false
  may_be_condition scope (truth b) = true
  may_be_condition scope (variable x) = suits is_flag (sort_of (named_in scope x))
  may_be_condition scope (access x is) = false
  may_be_condition scope (field c x) = field_suits true (field_in fields c x)
  may_be_condition scope (stride x k) = false
  may_be_condition scope (relu e) = false
  may_be_condition scope (select a b c d) = false
  may_be_condition scope (negative e) = false
  may_be_condition scope (parens e) = may_be_condition scope e
  may_be_condition scope (binary operator l r) = not (is_arithmetic operator)

  -- and a value of cells
  abbrev pub may_be_data : Scope → Tree → Bool
  may_be_data scope (number n) = true
  may_be_data scope (truth b) = false
  may_be_data scope (variable x) = suits is_buffer (sort_of (named_in scope x))
  may_be_data scope (access x is) = true
  may_be_data scope (field c x) = false
  may_be_data scope (stride x k) = false
  may_be_data scope (relu e) = true
  may_be_data scope (select a b c d) = true
  may_be_data scope (negative e) = true
  may_be_data scope (parens e) = may_be_data scope e
  may_be_data scope (binary operator l r) = is_arithmetic operator && not (is_quotient operator)

  -- ---- expressions: the rules that each breaks; n is the number of its first token

  -- where a control value is asked
  abbrev pub control_faults : Reads → Scope → ℕ → Tree → List Fault
  control_faults may scope n (number k) = []
  control_faults may scope n (truth b) = wrong_form scope n (truth b)
  control_faults may scope n (variable x) = name_faults is_number (sort_of (named_in scope x)) n
  control_faults may scope n (access x is) = wrong_form scope n (access x is)
  control_faults may scope n (field c x) = field_faults false may.fields (field_in fields c x) n
  control_faults may scope n (stride x k) =
      let sort = sort_of (named_in scope x) in
      parts_then_whole (name_faults is_buffer sort (n + 2))
      (dimension_faults sort k (n + 4) ++ unless may.strides StridePlace n)
  control_faults may scope n (relu e) = wrong_form scope n (relu e)
  control_faults may scope n (select a b c d) = wrong_form scope n (select a b c d)
  control_faults may scope n (negative e) = control_faults may scope (n + 1) e
  control_faults may scope n (parens e) =
      if may_be_control scope e
      then control_faults may scope (n + 1) e
      else wrong_form scope n (parens e)
  control_faults may scope n (binary operator l r) =
      let right = n + width l + 1 in
      if is_arithmetic operator
      then parts_then_whole (control_faults may scope n l ++ control_faults may scope right r)
      (affine_faults operator n right (has_variables l && has_variables r) (is_divisor r))
      else wrong_form scope n (binary operator l r)

  -- each where a control value is asked, with a token between two
  abbrev pub controls_faults : Reads → Scope → ℕ → List Tree → List Fault
  controls_faults may scope n [] = []
  controls_faults may scope n (e ∷ es) =
      control_faults may scope n e ++ controls_faults may scope (n + width e + 1) es

  -- where a condition is asked: the sides of a comparison are control values
  abbrev pub condition_faults : Reads → Scope → ℕ → Tree → List Fault
  condition_faults may scope n (number k) = wrong_form scope n (number k)
  condition_faults may scope n (truth b) = []
  condition_faults may scope n (variable x) = name_faults is_flag (sort_of (named_in scope x)) n
  condition_faults may scope n (access x is) = wrong_form scope n (access x is)
  condition_faults may scope n (field c x) = field_faults true may.fields (field_in fields c x) n
  condition_faults may scope n (stride x k) = wrong_form scope n (stride x k)
  condition_faults may scope n (relu e) = wrong_form scope n (relu e)
  condition_faults may scope n (select a b c d) = wrong_form scope n (select a b c d)
  condition_faults may scope n (negative e) = wrong_form scope n (negative e)
  condition_faults may scope n (parens e) =
      if may_be_condition scope e
      then condition_faults may scope (n + 1) e
      else wrong_form scope n (parens e)
  condition_faults may scope n (binary operator l r) =
      let right = n + width l + 1 in
      if is_arithmetic operator then wrong_form scope n (binary operator l r)
      else (if joins_conditions operator
      then condition_faults may scope n l ++ condition_faults may scope right r
      else control_faults may scope n l ++ control_faults may scope right r)

  -- the name of a cell and its indices, of which there are as many as dimensions
  abbrev pub read_faults : Scope → ℕ → List ℕ → List Tree → List Fault
  read_faults scope n x is =
      let sort = sort_of (named_in scope x) in
      parts_then_whole (name_faults is_buffer sort n ++ controls_faults plainly scope (n + 2) is)
      (rank_faults sort (length is) n)

  -- where a value of cells is asked
  abbrev pub data_faults : Scope → ℕ → Tree → List Fault
  data_faults scope n (number k) = []
  data_faults scope n (truth b) = wrong_form scope n (truth b)
  data_faults scope n (variable x) = read_faults scope n x []
  data_faults scope n (access x is) = read_faults scope n x (list_of is)
  data_faults scope n (field c x) = wrong_form scope n (field c x)
  data_faults scope n (stride x k) = wrong_form scope n (stride x k)
  data_faults scope n (relu e) = data_faults scope (n + 2) e
  data_faults scope n (select a b c d) =
      let first = n + 2 in
      let second = first + width a + 1 in
      let third = second + width b + 1 in
      let fourth = third + width c + 1 in
      data_faults scope first a
      ++ (data_faults scope second b ++ (data_faults scope third c ++ data_faults scope fourth d))
  data_faults scope n (negative e) = data_faults scope (n + 1) e
  data_faults scope n (parens e) =
      if may_be_data scope e then data_faults scope (n + 1) e else wrong_form scope n (parens e)
  data_faults scope n (binary operator l r) =
      if is_arithmetic operator && not (is_quotient operator)
      then data_faults scope n l ++ data_faults scope (n + width l + 1) r
      else wrong_form scope n (binary operator l r)
