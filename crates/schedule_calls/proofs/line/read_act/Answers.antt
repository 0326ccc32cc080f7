use Rattle.std.proofs.Common.{sym, subst, ◌∷◌}
use Rattle.std.specs.Prelude.{IfOk}
use Rattle.schedule_text.specs.Tree as tree
use Rattle.schedule_text.specs.Views.{plain_act, plain_move}
use Rattle.schedule_calls.specs.Requests.{Moved}
use Rattle.schedule_calls.specs.Readings.{Asks, move}
use Rattle.schedule_calls.specs.PlainRequest.{moves_of}
use Rattle.schedule_calls.specs.Answers.{IsAnswer}
use Rattle.schedule_calls.proofs.Lines.{asks_moved}
use Rattle.schedule_calls.proofs.line.read_act.Goals as goal

pub returns-in-Op : goal.returns-in-Op
returns-in-Op c =
    subst (λ a. IfOk c.read_operation.result (IsAnswer (tree.bind c.args.bind.now (plain_act a))))
    (sym c.in-Op.is) c.read_operation.ensures

pub returns-in-Find : goal.returns-in-Find
returns-in-Find c =
    subst (λ a. IfOk c.read_search.result (IsAnswer (tree.bind c.args.bind.now (plain_act a))))
    (sym c.in-Find.is) c.read_search.ensures

pub returns-in-Moved : goal.returns-in-Moved
returns-in-Moved c =
    subst
    (λ a. Asks (tree.bind c.args.bind.now (plain_act a))
    (Moved c.args.bind.now c.in-Moved.of
    (move (plain_move c.in-Moved.first) ∷ moves_of c.as_slice.result.now)))
    (sym c.in-Moved.is)
    (asks_moved c.args.bind.now c.in-Moved.of c.in-Moved.first c.in-Moved.more.items.items _
    c.as_slice.ensures.value)
