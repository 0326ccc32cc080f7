use Rattle.std.proofs.Common.{sym, subst}
use Rattle.std.specs.Prelude.{IfOk}
use Rattle.cursor_forward.specs.Search.PlainPattern.{plain_expr_pattern}
use Rattle.schedule_text.specs.Views.{plain_argument}
use Rattle.schedule_calls.specs.Answers.{AsksOne}
use Rattle.schedule_calls.specs.Readings.{AsksExpression}
use Rattle.schedule_calls.proofs.argument.expression_in.Goals as goal

pub returns-in-Str : goal.returns-in-Str
returns-in-Str c =
    subst
    (λ a. IfOk c.expression_of.result
    (λ found. AsksOne (AsksExpression (plain_argument a)) plain_expr_pattern found))
    (sym c.in-Str.is) c.expression_of.ensures
