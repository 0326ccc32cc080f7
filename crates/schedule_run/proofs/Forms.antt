-- Expressions in what a line asks for have the forms of their places.
use Rattle.std.proofs.Common.{◌≡◌, ℕ, List, Bool, true, false, refl}
use Rattle.std.specs.Prelude.{◌&&◌}
use Rattle.std.specs.List.{list_all}
use Rattle.text_expressions.specs.Expression.{Tree}
use Rattle.rules_names.specs.Arguments.{is_control_form, is_condition_form, is_coordinate_form}
use Rattle.schedule_text.specs.Tree as tree
use Rattle.schedule_calls.specs.declared.operator.CursorOperator.{CursorOperator}
use Rattle.schedule_calls.specs.declared.operator.CursorOperator.TheVariants as alone
use Rattle.schedule_calls.specs.declared.operator.WordOperator.{WordOperator}
use Rattle.schedule_calls.specs.declared.operator.WordOperator.TheVariants as word
use Rattle.schedule_calls.specs.declared.operator.WholeOperator.{WholeOperator}
use Rattle.schedule_calls.specs.declared.operator.WholeOperator.TheVariants as whole
use Rattle.schedule_calls.specs.declared.operator.ChangeOperator.{ChangeOperator}
use Rattle.schedule_calls.specs.declared.operator.OperatorName.{OperatorName}
use Rattle.schedule_calls.specs.Requests.{Asked, Window, Change, Alone, WithControl, WithWord}
use Rattle.schedule_calls.specs.Requests.{MultLoops, Specialize, CommuteExpr, BindExpr, ExpandDim}
use Rattle.schedule_calls.specs.Requests.{StageMem, WriteConfig, BindConfig, DivideLoop}
use Rattle.schedule_calls.specs.Requests.{EliminateDeadCode, Operation, Request}
use Rattle.schedule_calls.specs.Readings.{AsksControl, AsksCondition, AsksWindow, AsksChange}
use Rattle.schedule_calls.specs.Readings.{AsksOperation, Asks}
use Rattle.schedule_calls.specs.Readings as asks
use Rattle.schedule_laws.specs.Versions.Versions.{Versions}
use Rattle.schedule_laws.specs.Operators.Operators.{cursor_call, word_call, whole_call, change_call}
use Rattle.schedule_run.specs.Planned.{change_has_form, has_form, have_forms}

control_form : (b : tree.Argument) (e : Tree) → AsksControl b e → is_control_form e ≡ true
control_form (tree.string pieces) e h = h.form
control_form (tree.cursor c) e h = absurd h
control_form (tree.int n) e h = absurd h
control_form (tree.pair x y) e h = absurd h
control_form (tree.key x y) e h = absurd h

condition_form : (b : tree.Argument) (c : Tree) → AsksCondition b c → is_condition_form c ≡ true
condition_form (tree.string pieces) c h = h.form
condition_form (tree.cursor d) c h = absurd h
condition_form (tree.int n) c h = absurd h
condition_form (tree.pair x y) c h = absurd h
condition_form (tree.key x y) c h = absurd h

window_form : (b : tree.Argument) (w : Window) → AsksWindow b w
    → list_all is_coordinate_form w.1 ≡ true
window_form (tree.string pieces) w h = h.form
window_form (tree.cursor d) w h = absurd h
window_form (tree.int n) w h = absurd h
window_form (tree.pair x y) w h = absurd h
window_form (tree.key x y) w h = absurd h

both_forms : (a b : Bool) → a ≡ true → b ≡ true → (a && b) ≡ true
both_forms true b h k = k
both_forms false b h k = h

-- ---- what is asked has its form

change_form : (o : ChangeOperator) (args : List tree.Argument) (change : Change)
    → AsksChange o args change → change_has_form change ≡ true
change_form _ _ _ (asks.alone o) = refl
change_form _ _ _ (asks.with_control o a e h) = control_form a e h
change_form _ _ _ (asks.with_word o a word h) = refl
change_form _ _ _ (asks.mult_loops a name h) = refl
change_form _ _ _ (asks.specialize a c h) = condition_form a c h
change_form _ _ _ (asks.commute_expr a x h) = refl
change_form _ _ _ (asks.bind_expr a b x name h k) = refl
change_form _ _ _ (asks.expand_dim a b size point h k) =
    both_forms (is_control_form size) (is_control_form point) (control_form a size h)
    (control_form b point k)
change_form _ _ _ (asks.stage_mem a b keys w name accum h k i) = window_form a w h
change_form _ _ _ (asks.write_config a b c config field e h i k) = refl
change_form _ _ _ (asks.bind_config a b c param config field h i k) = refl
change_form _ _ _ (asks.divide_loop a b keys d h) = refl
change_form _ _ _ (asks.eliminate_dead_code keys keep h) = refl

operation_form : (o : OperatorName) (args : List tree.Argument) (operation : Operation)
    → AsksOperation o args operation → has_form operation ≡ true
operation_form _ _ _ (asks.at o a more asked change h k) = change_form o more change k
operation_form _ _ _ (asks.whole o) = refl
operation_form _ _ _ (asks.rename a name h) = refl

pub asked_forms : (line : tree.Line) (r : Request) → Asks line r → have_forms r ≡ true
asked_forms _ _ (asks.apply bind name of args o operation there h i) =
    operation_form o args.more operation i
asked_forms _ _ (asks.search bind f p nth h) = refl
asked_forms _ _ (asks.moved bind of m ms) = refl
asked_forms _ _ (asks.emit name) = refl

-- ---- forms that the fields of versions ask for

cursor_formed : (v : Versions) (at : Asked) (o : CursorOperator) → (cursor_call o at).formed v ≡ true
cursor_formed v at alone.ReorderLoops = refl
cursor_formed v at alone.JoinLoops = refl
cursor_formed v at alone.Fission = refl
cursor_formed v at alone.Fuse = refl
cursor_formed v at alone.UnrollLoop = refl
cursor_formed v at alone.RemoveLoop = refl
cursor_formed v at alone.LiftScope = refl
cursor_formed v at alone.ReorderStmts = refl
cursor_formed v at alone.LiftAlloc = refl
cursor_formed v at alone.DeleteBuffer = refl
cursor_formed v at alone.Inline = refl
cursor_formed v at alone.InlineWindow = refl
cursor_formed v at alone.DeleteConfig = refl

word_formed : (v : Versions) (at : Asked) (o : WordOperator) (name : List ℕ)
    → (word_call o name at).formed v ≡ true
word_formed v at word.SetMemory name = refl
word_formed v at word.Replace name = refl
word_formed v at word.CallEqv name = refl

pub change_formed : (v : Versions) (at : Asked) (change : Change)
    → ((config field : List ℕ) (e : Tree) → change ≡ WriteConfig config field e → ⊥)
    → (change_call at change).formed v ≡ true
change_formed v at (Alone o) h = cursor_formed v at o
change_formed v at (WithControl o e) h = refl
change_formed v at (WithWord o name) h = word_formed v at o name
change_formed v at (MultLoops name) h = refl
change_formed v at (Specialize c) h = refl
change_formed v at (CommuteExpr x) h = refl
change_formed v at (BindExpr x name) h = refl
change_formed v at (ExpandDim size point) h = refl
change_formed v at (StageMem window name accum) h = refl
change_formed v at (WriteConfig config field e) h = absurd (h config field e refl)
change_formed v at (BindConfig param config field) h = refl
change_formed v at (DivideLoop d) h = refl
change_formed v at (EliminateDeadCode keep) h = refl

pub whole_formed : (v : Versions) (o : WholeOperator) → (whole_call o).formed v ≡ true
whole_formed v whole.DeletePass = refl
whole_formed v whole.Simplify = refl
