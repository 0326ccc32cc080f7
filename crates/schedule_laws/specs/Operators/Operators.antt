-- What the operators of a schedule do: each works by its rule. A further operator is one row here.
use Rattle.std.specs.Prelude.{ℕ, List, Option, Some, None}
use Rattle.exo_tree.specs.Tree.{Control}
use Rattle.exo_tree.specs.Places.{Branch}
use Rattle.step_rules.specs.Rule.{Rule}
use Rattle.proc_laws.specs.Expression.Commute.{commute_rule}
use Rattle.proc_laws.specs.Expression.Passes.{delete_pass_rule}
use Rattle.proc_laws.specs.Expression.Rename.{rename_rule}
use Rattle.loop_laws.specs.DivideLoop.{divide_rule}
use Rattle.loop_laws.specs.CutLoop.{cut_rule}
use Rattle.loop_laws.specs.JoinLoops.{join_rule}
use Rattle.loop_laws.specs.MultLoops.{mult_rule}
use Rattle.loop_laws.specs.ShiftLoop.{shift_rule}
use Rattle.loop_laws.specs.UnrollLoop.{unroll_rule}
use Rattle.loop_laws.specs.Specialize.{specialize_rule}
use Rattle.loop_laws.specs.Nest.Fission.{fission_rule}
use Rattle.loop_laws.specs.Nest.Fuse.{fuse_rule}
use Rattle.loop_laws.specs.Nest.ReorderLoops as loops
use Rattle.proc_laws.specs.Statement.DeadCode.{empty_loop_rule, keep_rule}
use Rattle.proc_laws.specs.Statement.LiftScope.{lift_rule}
use Rattle.proc_laws.specs.Statement.RemoveLoop.{remove_rule}
use Rattle.proc_laws.specs.Statement.ReorderStatements as statements
use Rattle.alloc_laws.specs.Allocations as buffers
use Rattle.alloc_laws.specs.Allocations.{memory_rule}
use Rattle.alloc_laws.specs.Lifting as allocs
use Rattle.alloc_laws.specs.Expanding.{expand_rule}
use Rattle.alloc_laws.specs.Bind.Binding as parts
use Rattle.alloc_laws.specs.Stage.Staging.{stage_rule}
use Rattle.call_laws.specs.Calls.Inline.{inline_rule}
use Rattle.call_laws.specs.Calls.InlineWindow.{inline_window_rule}
use Rattle.call_laws.specs.Simplify.{simplify_rule}
use Rattle.call_laws.specs.Replace.Rule.{replace_rule}
use Rattle.call_laws.specs.Fields.FieldRules as fields
use Rattle.call_laws.specs.Fields.FieldRules.{write_rule, version_rule}
use Rattle.step_rules.specs.Lawful.{config_side}
use Rattle.schedule_calls.specs.declared.operator.CursorOperator.{CursorOperator}
use Rattle.schedule_calls.specs.declared.operator.CursorOperator.TheVariants as alone
use Rattle.schedule_calls.specs.declared.operator.ControlOperator.{ControlOperator}
use Rattle.schedule_calls.specs.declared.operator.ControlOperator.TheVariants as control
use Rattle.schedule_calls.specs.declared.operator.WordOperator.{WordOperator}
use Rattle.schedule_calls.specs.declared.operator.WordOperator.TheVariants as word
use Rattle.schedule_calls.specs.declared.operator.WholeOperator.{WholeOperator}
use Rattle.schedule_calls.specs.declared.operator.WholeOperator.TheVariants as whole
use Rattle.schedule_calls.specs.Requests.{Asked, Change, Alone, WithControl, WithWord, MultLoops}
use Rattle.schedule_calls.specs.Requests.{Specialize, CommuteExpr, BindExpr, ExpandDim, StageMem}
use Rattle.schedule_calls.specs.Requests.{WriteConfig, BindConfig, DivideLoop, EliminateDeadCode}
use Rattle.schedule_calls.specs.Requests.{Operation, At, Whole, Rename, Request}
use Rattle.schedule_calls.specs.Requests as request
use Rattle.schedule_laws.specs.Versions.Lines.{Call, Act, Apply, Search, Moved, Emit}
use Rattle.schedule_laws.specs.Operators.Arguments.{division_of, memory_named, version_named}
use Rattle.schedule_laws.specs.Operators.Arguments.{field_named}
use Rattle.schedule_laws.specs.Operators.Calls.{statement_call, numbered_call, counted_call}
use Rattle.schedule_laws.specs.Operators.Calls.{control_call, controls_call, part_call}
use Rattle.schedule_laws.specs.Operators.Calls.{condition_call, window_call, within_call, gap_call}
use Rattle.schedule_laws.specs.Operators.Calls.{field_call, procedure_call}

-- ---- operators whose arguments have one form

abbrev pub cursor_call : CursorOperator → Asked → Call
cursor_call alone.ReorderLoops at = statement_call at loops.reorder_rule
cursor_call alone.JoinLoops at = statement_call at join_rule
cursor_call alone.Fission at = gap_call at fission_rule
cursor_call alone.Fuse at = statement_call at fuse_rule
cursor_call alone.UnrollLoop at = statement_call at unroll_rule
cursor_call alone.RemoveLoop at = statement_call at remove_rule
cursor_call alone.LiftScope at = statement_call at lift_rule
cursor_call alone.ReorderStmts at = statement_call at statements.reorder_rule
cursor_call alone.LiftAlloc at = within_call at allocs.lift_rule
cursor_call alone.DeleteBuffer at = statement_call at buffers.delete_rule
cursor_call alone.Inline at = statement_call at inline_rule
cursor_call alone.InlineWindow at = statement_call at inline_window_rule
cursor_call alone.DeleteConfig at = statement_call at fields.delete_rule

abbrev pub control_rule : ControlOperator → Control → Rule
control_rule control.CutLoop = cut_rule
control_rule control.ShiftLoop = shift_rule

abbrev pub word_call : WordOperator → List ℕ → Asked → Call
word_call word.SetMemory name at = numbered_call (memory_named name) at memory_rule
word_call word.Replace name at = counted_call (version_named name) at replace_rule
word_call word.CallEqv name at = numbered_call (version_named name) at version_rule

abbrev pub whole_call : WholeOperator → Call
whole_call whole.DeletePass = procedure_call delete_pass_rule
whole_call whole.Simplify = procedure_call simplify_rule

-- a loop that has no turn, or the branch of a condition that is kept
abbrev pub dead_code_rule : Option Branch → Rule
dead_code_rule None = empty_loop_rule
dead_code_rule (Some keep) = keep_rule keep

-- ---- all operators

abbrev pub change_call : Asked → Change → Call
change_call at (Alone o) = cursor_call o at
change_call at (WithControl o e) = control_call at e (control_rule o)
change_call at (WithWord o name) = word_call o name at
change_call at (MultLoops name) = statement_call at (mult_rule name)
change_call at (Specialize c) = condition_call at c specialize_rule
change_call at (CommuteExpr x) = statement_call at (commute_rule x)
change_call at (BindExpr x name) = part_call at x (λ form k. parts.bind_rule form k name)
change_call at (ExpandDim size point) = controls_call at size point expand_rule
change_call at (StageMem window name accum) = window_call at window name accum stage_rule
change_call at (WriteConfig config field e) =
    field_call at config field e (λ side f a. write_rule (config_side side) f a)
change_call at (BindConfig param config field) =
    numbered_call (field_named config field) at (fields.bind_rule param)
change_call at (DivideLoop d) = statement_call at (divide_rule (division_of d))
change_call at (EliminateDeadCode keep) = statement_call at (dead_code_rule keep)

abbrev pub call_of : Operation → Call
call_of (At at change) = change_call at change
call_of (Whole o) = whole_call o
call_of (Rename name) = procedure_call (rename_rule name)

-- ---- lines

abbrev pub act_of : Request → Act
act_of (request.Apply bind of o) = Apply bind of (call_of o)
act_of (request.Search bind of pattern nth moves) = Search bind of pattern nth moves
act_of (request.Moved bind of moves) = Moved bind of moves
act_of (request.Emit name) = Emit name
