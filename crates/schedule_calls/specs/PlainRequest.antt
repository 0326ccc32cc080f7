-- Requests in memory, as plain ones.
use Rattle.std.specs.Prelude.{ℕ, List, ◌∷◌, map, option_map}
use Rattle.exo_tree.specs.PlainPlace.{branch_taken}
use Rattle.text_expressions.specs.Views.{tree_of}
use Rattle.exo_reader.specs.Views.{plain_window}
use Rattle.cursor_forward.specs.Search.Patterns as patterns
use Rattle.cursor_forward.specs.declared.search.pattern.Pattern.{Pattern}
use Rattle.cursor_forward.specs.Search.PlainPattern.{plain_pattern, plain_expr_pattern}
use Rattle.schedule_text.specs.Views.{plain_move}
use Rattle.schedule_text.specs.declared.source.Move as source
use Rattle.schedule_calls.specs.Requests as plain
use Rattle.schedule_calls.specs.Keys as keys
use Rattle.schedule_calls.specs.Readings.{move, moves}
use Rattle.schedule_calls.specs.declared.division.TailKeys.{TailKeys}
use Rattle.schedule_calls.specs.declared.request.Source.{Source}
use Rattle.schedule_calls.specs.declared.request.Source.TheVariants as from
use Rattle.schedule_calls.specs.declared.request.Asked.{Asked}
use Rattle.schedule_calls.specs.declared.request.Tail.{Tail}
use Rattle.schedule_calls.specs.declared.request.Tail.TheVariants as tail
use Rattle.schedule_calls.specs.declared.request.Division.{Division}
use Rattle.schedule_calls.specs.declared.request.Change.{Change}
use Rattle.schedule_calls.specs.declared.request.Change.TheVariants as change
use Rattle.schedule_calls.specs.declared.request.Operation.{Operation}
use Rattle.schedule_calls.specs.declared.request.Operation.TheVariants as operation
use Rattle.schedule_calls.specs.declared.request.Request.{Request}
use Rattle.schedule_calls.specs.declared.request.Request.TheVariants as request

-- a pattern with its number
abbrev pub plain_found : Pattern × ℕ → patterns.Pattern × ℕ
plain_found found = (plain_pattern found.0, found.1)

abbrev pub moves_of : List source.Move → List plain.Move
moves_of ms = moves (map plain_move ms)

abbrev pub plain_source : Source → plain.Source
plain_source (from.Under x) = plain.Under x.now
plain_source (from.Found x p nth) = plain.Found x.now (plain_pattern p) nth
plain_source (from.Here p nth) = plain.Here (plain_pattern p) nth

abbrev pub plain_asked : Asked → plain.Asked
plain_asked a = record { source = plain_source a.source; moves = moves_of a.moves.now }

abbrev pub plain_tail : Tail → plain.Tail
plain_tail tail.Guard = plain.Guard
plain_tail tail.Cut = plain.Cut
plain_tail tail.CutAndGuard = plain.CutAndGuard
plain_tail tail.Perfect = plain.Perfect

abbrev pub plain_keys : TailKeys → keys.TailKeys
plain_keys k = record { tail = option_map plain_tail k.tail; perfect = k.perfect }

abbrev pub plain_division : Division → plain.Division
plain_division d =
    record { by = d.by; outer = d.outer; inner = d.inner; tail = plain_tail d.tail }

abbrev pub plain_change : Change → plain.Change
plain_change (change.Alone o) = plain.Alone o
plain_change (change.WithControl o e) = plain.WithControl o (tree_of e.value)
plain_change (change.WithWord o word) = plain.WithWord o word.now
plain_change (change.MultLoops name) = plain.MultLoops name
plain_change (change.Specialize c) = plain.Specialize (tree_of c.value)
plain_change (change.CommuteExpr x) = plain.CommuteExpr (plain_expr_pattern x)
plain_change (change.BindExpr x name) = plain.BindExpr (plain_expr_pattern x) name
plain_change (change.ExpandDim size point) =
    plain.ExpandDim (tree_of size.value) (tree_of point.value)
plain_change (change.StageMem w name accum) = plain.StageMem (plain_window w.value) name accum
plain_change (change.WriteConfig config field e) =
    plain.WriteConfig config.now field (tree_of e.value)
plain_change (change.BindConfig param config field) = plain.BindConfig param config.now field
plain_change (change.DivideLoop d) = plain.DivideLoop (plain_division d.value)
plain_change (change.EliminateDeadCode keep) =
    plain.EliminateDeadCode (option_map branch_taken keep)

abbrev pub plain_operation : Operation → plain.Operation
plain_operation (operation.At asked c) = plain.At (plain_asked asked.value) (plain_change c)
plain_operation (operation.Whole o) = plain.Whole o
plain_operation (operation.Rename name) = plain.Rename name

abbrev pub plain_request : Request → plain.Request
plain_request (request.Apply bind of o) = plain.Apply bind.now of.now (plain_operation o)
plain_request (request.Search bind of p nth ms) =
    plain.Search bind.now of.now (plain_pattern p) nth (moves_of ms.now)
plain_request (request.Moved bind of m ms) =
    plain.Moved bind.now of.now (move (plain_move m) ∷ moves_of ms.now)
plain_request (request.Emit name) = plain.Emit name.now
