-- Calls of operators, by what they take: each tells where its rule works.
use Rattle.std.specs.Prelude.{ℕ, ◌&&◌, Bool, true, List, [], ◌∷◌, Option}
use Rattle.std.specs.List.{list_all}
use Rattle.std.specs.Option.{is_some}
use Rattle.exo_tree.specs.Tree.{Control, Condition, Argument}
use Rattle.exo_tree.specs.Places.{Branch, Path}
use Rattle.text_expressions.specs.Expression.{Tree}
use Rattle.rules_names.specs.Arguments.{knows_fields, knows_coordinate}
use Rattle.rules_names.specs.Names.{field_in}
use Rattle.cursor_forward.specs.Search.Patterns.{ExprPattern}
use Rattle.cursor_forward.specs.Causes.{WrongShape}
use Rattle.cursor_forward.specs.Cursors.{Side, Cursor}
use Rattle.step_rules.specs.Rule.{Tried, Got, Not, Target, Rule}
use Rattle.step_rules.specs.Answer.{then_try}
use Rattle.buffer_laws.specs.StageMem.{Staging}
use Rattle.alloc_laws.specs.Bind.Binding.{Form}
use Rattle.schedule_calls.specs.Requests.{Asked, Window}
use Rattle.schedule_laws.specs.Versions.Versions.{Versions}
use Rattle.schedule_laws.specs.Versions.Lines.{Ruled, Call}
use Rattle.schedule_laws.specs.Operators.Places.{statement_in, block_in, within_in, gap_in}
use Rattle.schedule_laws.specs.Operators.Places.{beside_in}
use Rattle.schedule_laws.specs.Operators.Arguments.{control_at, condition_at, part_at, number_or}
use Rattle.schedule_laws.specs.Operators.Arguments.{field_named, kind_or, value_has_form, value_at}
use Rattle.schedule_laws.specs.Operators.Arguments.{staging_at}

-- a rule by what one cursor stands for
abbrev pub ruled_at : {T : Type 0} → (Cursor → Tried T) → (T → Ruled) → List Cursor → Tried Ruled
ruled_at stands rule [] = Not WrongShape
ruled_at stands rule (c ∷ []) = then_try (stands c) (λ place. Got (rule place))
ruled_at stands rule (c ∷ d ∷ more) = Not WrongShape

-- at what the cursor stands for that is asked; what the operator names is there or not
abbrev pub place_call :
    {T : Type 0}
    → (Versions → Bool)
    → Asked
    → (Cursor → Tried T)
    → (Versions → Target → T → Ruled)
    → Call
place_call named at stands rule = record {
  formed = λ v. true;
  named = named;
  cursors = at ∷ [];
  rule = λ v t cs. ruled_at stands (rule v t) cs;
}

-- at a statement, by a rule that is told by what stands there
abbrev pub there_call : (Versions → Bool) → Asked → (Versions → Target → Path → Rule) → Call
there_call named at r =
    place_call named at statement_in (λ v t path. record { rule = r v t path; at = path })

abbrev pub statement_call : Asked → Rule → Call
statement_call at r = there_call (λ v. true) at (λ v t path. r)

-- by the number of what is named
abbrev pub numbered_call : (Versions → Option ℕ) → Asked → (ℕ → Rule) → Call
numbered_call number at r =
    there_call (λ v. is_some (number v)) at (λ v t path. r (number_or (number v)))

-- by what a control value stands for there
abbrev pub control_call : Asked → Tree → (Control → Rule) → Call
control_call at e r =
    there_call (λ v. knows_fields v.unit.fields e) at (λ v t path. r (control_at t path e))

-- by what two of them stand for
abbrev pub controls_call : Asked → Tree → Tree → (Control → Control → Rule) → Call
controls_call at e f r =
    there_call (λ v. knows_fields v.unit.fields e && knows_fields v.unit.fields f) at
    (λ v t path. r (control_at t path e) (control_at t path f))

-- by which part of its right side is meant there
abbrev pub part_call : Asked → ExprPattern → (Form → ℕ → Rule) → Call
part_call at x r = there_call (λ v. true) at (λ v t path. r (part_at t path x.form) x.nth)

-- at some statements, by the number of what is named and how many they are
abbrev pub counted_call : (Versions → Option ℕ) → Asked → (ℕ → ℕ → Rule) → Call
counted_call number at r =
    place_call (λ v. is_some (number v)) at block_in
    (λ v t piece. record { rule = r (number_or (number v)) piece.count; at = piece.path })

-- at some statements, by how many they are and what a condition stands for there
abbrev pub condition_call : Asked → Tree → (ℕ → Condition → Rule) → Call
condition_call at c r =
    place_call (λ v. knows_fields v.unit.fields c) at block_in
    (λ v t piece. record { rule = r piece.count (condition_at t piece.path c); at = piece.path })

-- at some statements, by how many they are and what a window stands for there
abbrev pub window_call : Asked → Window → List ℕ → Bool → (ℕ → Staging → Rule) → Call
window_call at w name accum r =
    place_call (λ v. list_all (knows_coordinate v.unit.fields) w.1) at block_in
    (λ v t piece. record {
      rule = r piece.count (staging_at t piece.path w name accum);
      at = piece.path;
    })

-- at the statement round another one, by the branch and the number in which that stands
abbrev pub within_call : Asked → (Branch → ℕ → Rule) → Call
within_call at r =
    place_call (λ v. true) at within_in
    (λ v t w. record { rule = r w.branch w.index; at = w.around })

-- at the statement round a gap, by how many statements of its block are before the gap
abbrev pub gap_call : Asked → (ℕ → Rule) → Call
gap_call at r =
    place_call (λ v. true) at gap_in (λ v t g. record { rule = r g.before; at = g.around })

-- at the statement beside a gap, by what is written there into a field; what is written has the
-- form of the field's kind
abbrev pub field_call : Asked → List ℕ → List ℕ → Tree → (Side → ℕ → Argument → Rule) → Call
field_call at config field e r =
    let found = λ (v : Versions). field_in v.unit.fields config field in
    record (place_call
    (λ v. is_some (found v) && knows_fields v.unit.fields e) at beside_in
    (λ v t b. record {
      rule =
          r b.side (number_or (field_named config field v))
          (value_at t b.path b.side (kind_or (found v)) e);
      at = b.path;
    })) {
      formed = λ v. value_has_form (kind_or (found v)) e;
    }

-- on the whole procedure
abbrev pub procedure_call : Rule → Call
procedure_call r = record {
  formed = λ v. true;
  named = λ v. true;
  cursors = [];
  rule = λ v t cs. Got (record { rule = r; at = [] });
}
