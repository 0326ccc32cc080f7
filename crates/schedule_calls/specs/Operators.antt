-- The operators that there are, by their names.
use Rattle.std.specs.Prelude.{ℕ, Bool, List, [], ◌∷◌, Option, Some, None, if◌then◌else◌, codes}
use Rattle.std.specs.Option.{is_some}
use Rattle.std.specs.Str.{bytes_eq}
use Rattle.schedule_calls.specs.declared.operator.CursorOperator.TheVariants as alone
use Rattle.schedule_calls.specs.declared.operator.ControlOperator.TheVariants as control
use Rattle.schedule_calls.specs.declared.operator.WordOperator.TheVariants as word
use Rattle.schedule_calls.specs.declared.operator.WholeOperator.TheVariants as whole
use Rattle.schedule_calls.specs.declared.operator.ChangeOperator.TheVariants as change
use Rattle.schedule_calls.specs.declared.operator.ChangeOperator.TheVariants.{Alone, WithControl}
use Rattle.schedule_calls.specs.declared.operator.OperatorName.{OperatorName}
use Rattle.schedule_calls.specs.declared.operator.OperatorName.TheVariants.{At, Whole, Rename}

-- each with its name
abbrev pub rows : List (List ℕ × OperatorName)
rows =
    (codes "reorder_loops", At (Alone alone.ReorderLoops))
    ∷ (codes "divide_loop", At change.DivideLoop)
    ∷ (codes "cut_loop", At (WithControl control.CutLoop))
    ∷ (codes "join_loops", At (Alone alone.JoinLoops))
    ∷ (codes "mult_loops", At change.MultLoops)
    ∷ (codes "shift_loop", At (WithControl control.ShiftLoop))
    ∷ (codes "fission", At (Alone alone.Fission))
    ∷ (codes "fuse", At (Alone alone.Fuse))
    ∷ (codes "unroll_loop", At (Alone alone.UnrollLoop))
    ∷ (codes "remove_loop", At (Alone alone.RemoveLoop))
    ∷ (codes "lift_scope", At (Alone alone.LiftScope))
    ∷ (codes "specialize", At change.Specialize)
    ∷ (codes "eliminate_dead_code", At change.EliminateDeadCode)
    ∷ (codes "reorder_stmts", At (Alone alone.ReorderStmts))
    ∷ (codes "commute_expr", At change.CommuteExpr)
    ∷ (codes "delete_pass", Whole whole.DeletePass)
    ∷ (codes "rename", Rename)
    ∷ (codes "set_memory", At (change.WithWord word.SetMemory))
    ∷ (codes "delete_buffer", At (Alone alone.DeleteBuffer))
    ∷ (codes "lift_alloc", At (Alone alone.LiftAlloc))
    ∷ (codes "expand_dim", At change.ExpandDim)
    ∷ (codes "bind_expr", At change.BindExpr)
    ∷ (codes "stage_mem", At change.StageMem)
    ∷ (codes "inline_window", At (Alone alone.InlineWindow))
    ∷ (codes "inline", At (Alone alone.Inline))
    ∷ (codes "replace", At (change.WithWord word.Replace))
    ∷ (codes "write_config", At change.WriteConfig)
    ∷ (codes "delete_config", At (Alone alone.DeleteConfig))
    ∷ (codes "bind_config", At change.BindConfig)
    ∷ (codes "call_eqv", At (change.WithWord word.CallEqv))
    ∷ (codes "simplify", Whole whole.Simplify)
    ∷ []

-- the operator of that name among some
abbrev pub operator_among : List (List ℕ × OperatorName) → List ℕ → Option OperatorName
operator_among [] name = None
operator_among (row ∷ more) name =
    if bytes_eq name row.0 then Some row.1 else operator_among more name

-- the operator of that name; folded, so that no proof looks into the rows by chance
unfoldable pub operator_of : List ℕ → Option OperatorName
operator_of name = operator_among rows name

abbrev pub is_operator : List ℕ → Bool
is_operator name = is_some (operator_of name)
