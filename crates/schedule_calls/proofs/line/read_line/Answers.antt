use Rattle.std.proofs.Common.{sym, subst}
use Rattle.std.specs.Prelude.{IfOk}
use Rattle.schedule_text.specs.Views.{plain_statement}
use Rattle.schedule_calls.specs.Requests.{Emit}
use Rattle.schedule_calls.specs.Readings.{Asks, emit}
use Rattle.schedule_calls.specs.Answers.{IsAnswer}
use Rattle.schedule_calls.proofs.line.read_line.Goals as goal

pub returns-in-Emit : goal.returns-in-Emit
returns-in-Emit c =
    subst (λ s. Asks (plain_statement s) (Emit c.in-Emit.name)) (sym c.in-Emit.is)
    (emit c.in-Emit.name)

pub returns-in-Bind : goal.returns-in-Bind
returns-in-Bind c =
    subst (λ s. IfOk c.read_act.result (IsAnswer (plain_statement s))) (sym c.in-Bind.is)
    c.read_act.ensures
