-- What holds of each rule by which operators work.
use Rattle.std.specs.Prelude.{⊤, ℕ, List}
use Rattle.exo_tree.specs.Tree.{Control, Condition, Argument}
use Rattle.exo_tree.specs.Places.{Branch}
use Rattle.cursor_forward.specs.Search.Patterns.{ExprPattern}
use Rattle.step_rules.specs.Rule.{Rule}
use Rattle.proc_laws.specs.Expression.Commute.{commute_rule}
use Rattle.proc_laws.specs.Expression.Passes.{delete_pass_rule}
use Rattle.proc_laws.specs.Expression.Rename.{rename_rule}
use Rattle.loop_laws.specs.CutLoop.{cut_rule}
use Rattle.loop_laws.specs.DivideLoop.{Division, divide_rule}
use Rattle.loop_laws.specs.JoinLoops.{join_rule}
use Rattle.loop_laws.specs.MultLoops.{mult_rule}
use Rattle.loop_laws.specs.ShiftLoop.{shift_rule}
use Rattle.loop_laws.specs.Specialize.{specialize_rule}
use Rattle.loop_laws.specs.UnrollLoop.{unroll_rule}
use Rattle.loop_laws.specs.Nest.Fission.{fission_rule}
use Rattle.loop_laws.specs.Nest.Fuse.{fuse_rule}
use Rattle.loop_laws.specs.Nest.ReorderLoops as loops
use Rattle.proc_laws.specs.Statement.DeadCode.{empty_loop_rule, keep_rule}
use Rattle.proc_laws.specs.Statement.LiftScope.{lift_rule}
use Rattle.proc_laws.specs.Statement.RemoveLoop.{remove_rule}
use Rattle.proc_laws.specs.Statement.ReorderStatements as statements
use Rattle.config_laws.specs.FieldRule as config
use Rattle.buffer_laws.specs.StageMem.{Staging}
use Rattle.alloc_laws.specs.Allocations as buffers
use Rattle.alloc_laws.specs.Allocations.{memory_rule}
use Rattle.alloc_laws.specs.Lifting as allocs
use Rattle.alloc_laws.specs.Expanding.{expand_rule}
use Rattle.alloc_laws.specs.Bind.Binding as parts
use Rattle.alloc_laws.specs.Bind.Binding.{Form}
use Rattle.alloc_laws.specs.Stage.Staging.{stage_rule}
use Rattle.call_laws.specs.Calls.Inline.{inline_rule}
use Rattle.call_laws.specs.Calls.InlineWindow.{inline_window_rule}
use Rattle.call_laws.specs.Simplify.{simplify_rule}
use Rattle.call_laws.specs.Replace.Rule.{replace_rule}
use Rattle.call_laws.specs.Fields.FieldRules as fields
use Rattle.call_laws.specs.Fields.FieldRules.{write_rule, version_rule}
use Rattle.schedule_calls.specs.Requests.{Change, Alone, WithControl, WithWord, MultLoops}
use Rattle.schedule_calls.specs.Requests.{Specialize, CommuteExpr, BindExpr, ExpandDim, StageMem}
use Rattle.schedule_calls.specs.Requests.{WriteConfig, BindConfig, DivideLoop, EliminateDeadCode}
use Rattle.schedule_calls.specs.Requests.{Operation, At, Whole, Rename}

-- it holds of the rule of each operator, where the names that the user gives are such ones
pub record OfRules (Holds : Rule → Type 0) (IsGiven : List ℕ → Type 0) : Type 0 where
  pub reorder_loops : Holds loops.reorder_rule
  pub divide : (d : Division) → IsGiven d.outer → IsGiven d.inner → Holds (divide_rule d)
  pub cut : (e : Control) → Holds (cut_rule e)
  pub join : Holds join_rule
  pub mult : (name : List ℕ) → IsGiven name → Holds (mult_rule name)
  pub shift : (e : Control) → Holds (shift_rule e)
  pub fission : (count : ℕ) → Holds (fission_rule count)
  pub fuse : Holds fuse_rule
  pub unroll : Holds unroll_rule
  pub remove : Holds remove_rule
  pub lift : Holds lift_rule
  pub specialize : (count : ℕ) (c : Condition) → Holds (specialize_rule count c)
  pub empty_loop : Holds empty_loop_rule
  pub keep : (keep : Branch) → Holds (keep_rule keep)
  pub reorder_statements : Holds statements.reorder_rule
  pub commute : (x : ExprPattern) → Holds (commute_rule x)
  pub delete_pass : Holds delete_pass_rule
  pub rename : (name : List ℕ) → IsGiven name → Holds (rename_rule name)
  -- buffers
  pub memory : (m : ℕ) → Holds (memory_rule m)
  pub delete_buffer : Holds buffers.delete_rule
  pub lift_alloc : (branch : Branch) (k : ℕ) → Holds (allocs.lift_rule branch k)
  pub expand : (size e : Control) → Holds (expand_rule size e)
  pub bind : (f : Form) (k : ℕ) (name : List ℕ) → IsGiven name → Holds (parts.bind_rule f k name)
  pub stage : (count : ℕ) (w : Staging) → IsGiven w.name → Holds (stage_rule count w)
  -- calls, and expressions in their normal forms
  pub inline_window : Holds inline_window_rule
  pub inline : Holds inline_rule
  pub replace : (k count : ℕ) → Holds (replace_rule k count)
  pub simplify : Holds simplify_rule
  -- configuration fields
  pub write_field : (side : config.Side) (f : ℕ) (e : Argument) → Holds (write_rule side f e)
  pub delete_field : Holds fields.delete_rule
  pub bind_field : (param : List ℕ) (f : ℕ) → Holds (fields.bind_rule param f)
  pub version : (j : ℕ) → Holds (version_rule j)

-- of an operation, the names that the user gives are such ones
module _ (IsGiven : List ℕ → Type 0) where
  abbrev pub ChangeTakes : Change → Type 0
  ChangeTakes (Alone o) = ⊤
  ChangeTakes (WithControl o e) = ⊤
  ChangeTakes (WithWord o word) = ⊤
  ChangeTakes (MultLoops name) = IsGiven name
  ChangeTakes (Specialize c) = ⊤
  ChangeTakes (CommuteExpr x) = ⊤
  ChangeTakes (BindExpr x name) = IsGiven name
  ChangeTakes (ExpandDim size point) = ⊤
  ChangeTakes (StageMem window name accum) = IsGiven name
  ChangeTakes (WriteConfig config field e) = ⊤
  ChangeTakes (BindConfig param config field) = ⊤
  ChangeTakes (DivideLoop d) = IsGiven d.outer × IsGiven d.inner
  ChangeTakes (EliminateDeadCode keep) = ⊤

  abbrev pub Takes : Operation → Type 0
  Takes (At at change) = ChangeTakes change
  Takes (Whole o) = ⊤
  Takes (Rename name) = IsGiven name
