-- What the arguments of operators stand for.
use Rattle.std.specs.Prelude.{ℕ, pos, Bool, true, false, if◌then◌else◌, List}
use Rattle.std.specs.Prelude.{Option, Some, None, option_map}
use Rattle.exo_tree.specs.Tree.{Kind, Index, Control, Condition, Argument}
use Rattle.exo_tree.specs.Places.{Path}
use Rattle.exo_meaning.specs.Units.{Scope, is_truth}
use Rattle.text_expressions.specs.Expression.{Tree}
use Rattle.rules_names.specs.Arguments.{is_control_form, is_condition_form}
use Rattle.rules_names.specs.Names.{id_in, field_in, memory_in}
use Rattle.rules_names.specs.Resolved.{control_of, condition_of}
use Rattle.rules_names.specs.WindowRules.{coordinates_of}
use Rattle.rules_names.specs.Scopes.PlaceScope.{scope_at}
use Rattle.exo_types.specs.ArgumentRules.{kind_value_of}
use Rattle.cursor_forward.specs.Search.Patterns as pattern
use Rattle.cursor_forward.specs.Search.Patterns.{ExprForm}
use Rattle.cursor_forward.specs.Cursors.{Side, Before, After}
use Rattle.step_rules.specs.Rule.{Target}
use Rattle.loop_laws.specs.DivideLoop as divide
use Rattle.buffer_laws.specs.StageMem.{Staging}
use Rattle.alloc_laws.specs.Bind.Binding.{Form, AnyRead, ReadOf, Sum, Difference, Product}
use Rattle.schedule_calls.specs.Requests.{Division, Window}
use Rattle.schedule_laws.specs.Versions.Versions.{Versions, version_of}

-- ---- divisions

abbrev pub division_of : Division → divide.Division
division_of d =
    record { by = pos d.by; outer = d.outer; inner = d.inner; tail = d.tail }

-- ---- expressions

-- the names in scope before the statement at a path
abbrev pub scope_before : Target → Path → Scope
scope_before t path = scope_at t.unit t.number path false

-- what an expression stands for there
abbrev pub control_at : Target → Path → Tree → Control
control_at t path e = control_of t.unit.fields (scope_before t path) e

abbrev pub condition_at : Target → Path → Tree → Condition
condition_at t path c = condition_of t.unit.fields (scope_before t path) c

-- ---- parts of right sides

-- the form of a part; the name of a buffer is told by its id there
abbrev pub part_at : Target → Path → ExprForm → Form
part_at t path (pattern.Read None) = AnyRead
part_at t path (pattern.Read (Some x)) = ReadOf (id_in (scope_before t path) x)
part_at t path pattern.Add = Sum
part_at t path pattern.Sub = Difference
part_at t path pattern.Mul = Product

-- ---- windows

-- the buffer that stands for a window, with what its name and its coordinates stand for there
abbrev pub staging_at : Target → Path → Window → List ℕ → Bool → Staging
staging_at t path w name accum = record {
  root = id_in (scope_before t path) w.0;
  coords = coordinates_of t.unit.fields (scope_before t path) w.1;
  name = name;
  accum = accum;
}

-- ---- what words name

abbrev pub memory_named : List ℕ → Versions → Option ℕ
memory_named word v = memory_in v.unit.memories word

abbrev pub version_named : List ℕ → Versions → Option ℕ
version_named word v = version_of v word

abbrev pub field_named : List ℕ → List ℕ → Versions → Option ℕ
field_named config field v = option_map (λ f. f.0) (field_in v.unit.fields config field)

-- ---- what is written into a field

-- a field that is not there is never written
abbrev pub kind_or : Option (ℕ × Kind) → Kind
kind_or None = Index
kind_or (Some f) = f.1

abbrev pub number_or : Option ℕ → ℕ
number_or None = 0
number_or (Some n) = n

-- a condition for a truth value, and else a control value
abbrev pub value_has_form : Kind → Tree → Bool
value_has_form kind e = if is_truth kind then is_condition_form e else is_control_form e

abbrev pub is_after : Side → Bool
is_after Before = false
is_after After = true

-- what it stands for in the gap beside a statement
abbrev pub value_at : Target → Path → Side → Kind → Tree → Argument
value_at t path side kind e =
    kind_value_of t.unit.fields (scope_at t.unit t.number path (is_after side)) kind e
