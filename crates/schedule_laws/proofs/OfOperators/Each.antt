-- What holds of the rule of each operator holds of each rule by which a schedule's lines work.
use Rattle.std.proofs.Common.{◌≡◌, ℕ, List, [], ◌∷◌, subst}
use Rattle.std.specs.Prelude.{Option, Some, None}
use Rattle.exo_tree.specs.Tree.{Control}
use Rattle.exo_tree.specs.Places.{Branch, Path}
use Rattle.rules_names.specs.Names.{field_in}
use Rattle.cursor_forward.specs.Cursors.{Cursor}
use Rattle.step_rules.specs.Lawful.{config_side}
use Rattle.step_rules.specs.Rule.{Tried, Got, Not, Target, Rule}
use Rattle.step_rules.specs.Answer.{then_try}
use Rattle.proc_laws.specs.Expression.Commute.{commute_rule}
use Rattle.proc_laws.specs.Expression.Passes.{delete_pass_rule}
use Rattle.proc_laws.specs.Expression.Rename.{rename_rule}
use Rattle.loop_laws.specs.DivideLoop.{divide_rule}
use Rattle.loop_laws.specs.JoinLoops.{join_rule}
use Rattle.loop_laws.specs.MultLoops.{mult_rule}
use Rattle.loop_laws.specs.UnrollLoop.{unroll_rule}
use Rattle.loop_laws.specs.Specialize.{specialize_rule}
use Rattle.loop_laws.specs.Nest.Fission.{fission_rule}
use Rattle.loop_laws.specs.Nest.Fuse.{fuse_rule}
use Rattle.loop_laws.specs.Nest.ReorderLoops as loops
use Rattle.proc_laws.specs.Statement.LiftScope.{lift_rule}
use Rattle.proc_laws.specs.Statement.RemoveLoop.{remove_rule}
use Rattle.proc_laws.specs.Statement.ReorderStatements as statements
use Rattle.alloc_laws.specs.Allocations as buffers
use Rattle.alloc_laws.specs.Allocations.{memory_rule}
use Rattle.alloc_laws.specs.Lifting as allocs
use Rattle.alloc_laws.specs.Expanding.{expand_rule}
use Rattle.alloc_laws.specs.Bind.Binding as parts
use Rattle.alloc_laws.specs.Stage.Staging.{stage_rule}
use Rattle.call_laws.specs.Calls.Inline.{inline_rule}
use Rattle.call_laws.specs.Calls.InlineWindow.{inline_window_rule}
use Rattle.call_laws.specs.Simplify.{simplify_rule}
use Rattle.call_laws.specs.Replace.Rule.{replace_rule}
use Rattle.call_laws.specs.Fields.FieldRules as fields
use Rattle.call_laws.specs.Fields.FieldRules.{write_rule, version_rule}
use Rattle.schedule_calls.specs.declared.operator.CursorOperator.{CursorOperator}
use Rattle.schedule_calls.specs.declared.operator.CursorOperator.TheVariants as alone
use Rattle.schedule_calls.specs.declared.operator.ControlOperator.{ControlOperator}
use Rattle.schedule_calls.specs.declared.operator.ControlOperator.TheVariants as control
use Rattle.schedule_calls.specs.declared.operator.WordOperator.{WordOperator}
use Rattle.schedule_calls.specs.declared.operator.WordOperator.TheVariants as word
use Rattle.schedule_calls.specs.declared.operator.WholeOperator.{WholeOperator}
use Rattle.schedule_calls.specs.declared.operator.WholeOperator.TheVariants as whole
use Rattle.schedule_calls.specs.Requests.{Asked, Change, Alone, WithControl, WithWord, MultLoops}
use Rattle.schedule_calls.specs.Requests.{Specialize, CommuteExpr, BindExpr, ExpandDim, StageMem}
use Rattle.schedule_calls.specs.Requests.{WriteConfig, BindConfig, DivideLoop, EliminateDeadCode}
use Rattle.schedule_calls.specs.Requests.{Operation, At, Whole, Rename}
use Rattle.schedule_laws.specs.Versions.Versions.{Versions}
use Rattle.schedule_laws.specs.Versions.Lines.{Ruled}
use Rattle.schedule_laws.specs.Versions.Laws.{EachRule}
use Rattle.schedule_laws.specs.Operators.Places.{statement_in, block_in, within_in, gap_in, beside_in}
use Rattle.schedule_laws.specs.Operators.Arguments.{division_of, control_at, condition_at, part_at}
use Rattle.schedule_laws.specs.Operators.Arguments.{memory_named, version_named, field_named, number_or}
use Rattle.schedule_laws.specs.Operators.Arguments.{kind_or, value_at, staging_at}
use Rattle.schedule_laws.specs.Operators.Calls.{ruled_at, statement_call, procedure_call}
use Rattle.schedule_laws.specs.Operators.Operators.{cursor_call, control_rule, word_call}
use Rattle.schedule_laws.specs.Operators.Operators.{whole_call, dead_code_rule, change_call, call_of}
use Rattle.schedule_laws.specs.Operators.Rules.{OfRules, ChangeTakes, Takes}

same_rule : (a b : Ruled) → Got a ≡ Got b → a ≡ b
same_rule a b h = cc

module _ (Holds : Rule → Type 0) where
  -- ---- calls

  by_place : {T : Type 0} (place : Tried T) (rule : T → Ruled) → ((x : T) → Holds (rule x).rule)
      → (made : Ruled) → then_try place (λ x. Got (rule x)) ≡ Got made → Holds made.rule
  by_place (Not cause) rule holds made h = cc
  by_place (Got x) rule holds made h =
      subst (λ (r : Ruled). Holds r.rule) (same_rule (rule x) made h) (holds x)

  by_cursors : {T : Type 0} (stands : Cursor → Tried T) (rule : T → Ruled)
      → ((x : T) → Holds (rule x).rule) → (cs : List Cursor) (made : Ruled)
      → ruled_at stands rule cs ≡ Got made → Holds made.rule
  by_cursors stands rule holds [] made h = cc
  by_cursors stands rule holds (c ∷ []) made h = by_place (stands c) rule holds made h
  by_cursors stands rule holds (c ∷ d ∷ more) made h = cc

  at_place : {T : Type 0} (stands : Cursor → Tried T) (rule : Versions → Target → T → Ruled)
      → ((v : Versions) (t : Target) (x : T) → Holds (rule v t x).rule)
      → (v : Versions) (t : Target) (cs : List Cursor) (made : Ruled)
      → ruled_at stands (rule v t) cs ≡ Got made → Holds made.rule
  at_place stands rule holds v t cs made h = by_cursors stands (rule v t) (holds v t) cs made h

  at_there : (r : Versions → Target → Path → Rule)
      → ((v : Versions) (t : Target) (path : Path) → Holds (r v t path))
      → (v : Versions) (t : Target) (cs : List Cursor) (made : Ruled)
      → ruled_at statement_in (λ path. record { rule = r v t path; at = path }) cs ≡ Got made
      → Holds made.rule
  at_there r holds =
      at_place statement_in (λ v t path. record { rule = r v t path; at = path }) holds

  at_statement : (at : Asked) (r : Rule) → Holds r → EachRule Holds (statement_call at r)
  at_statement at r holds = at_there (λ v t path. r) (λ v t path. holds)

  on_procedure : (r : Rule) → Holds r → EachRule Holds (procedure_call r)
  on_procedure r holds v t cs made h =
      subst (λ (x : Ruled). Holds x.rule) (same_rule (record { rule = r; at = [] }) made h) holds

  -- ---- operators

  module _ (IsGiven : List ℕ → Type 0) (rules : OfRules Holds IsGiven) where
    of_cursor : (at : Asked) (o : CursorOperator) → EachRule Holds (cursor_call o at)
    of_cursor at alone.ReorderLoops = at_statement at loops.reorder_rule rules.reorder_loops
    of_cursor at alone.JoinLoops = at_statement at join_rule rules.join
    of_cursor at alone.Fission =
        at_place gap_in (λ v t g. record { rule = fission_rule g.before; at = g.around })
        (λ v t g. rules.fission g.before)
    of_cursor at alone.Fuse = at_statement at fuse_rule rules.fuse
    of_cursor at alone.UnrollLoop = at_statement at unroll_rule rules.unroll
    of_cursor at alone.RemoveLoop = at_statement at remove_rule rules.remove
    of_cursor at alone.LiftScope = at_statement at lift_rule rules.lift
    of_cursor at alone.ReorderStmts =
        at_statement at statements.reorder_rule rules.reorder_statements
    of_cursor at alone.LiftAlloc =
        at_place within_in (λ v t w. record { rule = allocs.lift_rule w.branch w.index; at = w.around })
        (λ v t w. rules.lift_alloc w.branch w.index)
    of_cursor at alone.DeleteBuffer = at_statement at buffers.delete_rule rules.delete_buffer
    of_cursor at alone.Inline = at_statement at inline_rule rules.inline
    of_cursor at alone.InlineWindow = at_statement at inline_window_rule rules.inline_window
    of_cursor at alone.DeleteConfig = at_statement at fields.delete_rule rules.delete_field

    of_control : (o : ControlOperator) (e : Control) → Holds (control_rule o e)
    of_control control.CutLoop e = rules.cut e
    of_control control.ShiftLoop e = rules.shift e

    of_word : (at : Asked) (o : WordOperator) (name : List ℕ) → EachRule Holds (word_call o name at)
    of_word at word.SetMemory name =
        at_there (λ v t path. memory_rule (number_or (memory_named name v)))
        (λ v t path. rules.memory (number_or (memory_named name v)))
    of_word at word.Replace name =
        at_place block_in
        (λ v t piece. record {
          rule = replace_rule (number_or (version_named name v)) piece.count;
          at = piece.path;
        })
        (λ v t piece. rules.replace (number_or (version_named name v)) piece.count)
    of_word at word.CallEqv name =
        at_there (λ v t path. version_rule (number_or (version_named name v)))
        (λ v t path. rules.version (number_or (version_named name v)))

    of_whole : (o : WholeOperator) → EachRule Holds (whole_call o)
    of_whole whole.DeletePass = on_procedure delete_pass_rule rules.delete_pass
    of_whole whole.Simplify = on_procedure simplify_rule rules.simplify

    of_dead_code : (keep : Option Branch) → Holds (dead_code_rule keep)
    of_dead_code None = rules.empty_loop
    of_dead_code (Some keep) = rules.keep keep

    of_change : (at : Asked) (change : Change) → ChangeTakes IsGiven change
        → EachRule Holds (change_call at change)
    of_change at (Alone o) given = of_cursor at o
    of_change at (WithControl o e) given =
        at_there (λ v t path. control_rule o (control_at t path e))
        (λ v t path. of_control o (control_at t path e))
    of_change at (WithWord o name) given = of_word at o name
    of_change at (MultLoops name) given = at_statement at (mult_rule name) (rules.mult name given)
    of_change at (Specialize c) given =
        at_place block_in
        (λ v t piece. record {
          rule = specialize_rule piece.count (condition_at t piece.path c);
          at = piece.path;
        })
        (λ v t piece. rules.specialize piece.count (condition_at t piece.path c))
    of_change at (CommuteExpr x) given = at_statement at (commute_rule x) (rules.commute x)
    of_change at (BindExpr x name) given =
        at_there (λ v t path. parts.bind_rule (part_at t path x.form) x.nth name)
        (λ v t path. rules.bind (part_at t path x.form) x.nth name given)
    of_change at (ExpandDim size point) given =
        at_there (λ v t path. expand_rule (control_at t path size) (control_at t path point))
        (λ v t path. rules.expand (control_at t path size) (control_at t path point))
    of_change at (StageMem window name accum) given =
        at_place block_in
        (λ v t piece. record {
          rule = stage_rule piece.count (staging_at t piece.path window name accum);
          at = piece.path;
        })
        (λ v t piece.
        rules.stage piece.count (staging_at t piece.path window name accum) given)
    of_change at (WriteConfig config field e) given =
        at_place beside_in
        (λ v t b. record {
          rule =
              write_rule (config_side b.side) (number_or (field_named config field v))
              (value_at t b.path b.side (kind_or (field_in v.unit.fields config field)) e);
          at = b.path;
        })
        (λ v t b.
        rules.write_field (config_side b.side) (number_or (field_named config field v))
        (value_at t b.path b.side (kind_or (field_in v.unit.fields config field)) e))
    of_change at (BindConfig param config field) given =
        at_there (λ v t path. fields.bind_rule param (number_or (field_named config field v)))
        (λ v t path. rules.bind_field param (number_or (field_named config field v)))
    of_change at (DivideLoop d) given =
        at_statement at (divide_rule (division_of d))
        (rules.divide (division_of d) given.0 given.1)
    of_change at (EliminateDeadCode keep) given =
        at_statement at (dead_code_rule keep) (of_dead_code keep)

    pub of_operation : (o : Operation) → Takes IsGiven o → EachRule Holds (call_of o)
    of_operation (At at change) given = of_change at change given
    of_operation (Whole o) given = of_whole o
    of_operation (Rename name) given = on_procedure (rename_rule name) (rules.rename name given)
