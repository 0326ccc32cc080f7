use Rattle.schedule_text.specs.Patterns.Grammar.{expression, form_meant}
use Rattle.schedule_text.proofs.OfPatterns.Faults.{error_exit, number_fault}
use Rattle.schedule_text.proofs.patterns.text.read_expr_pattern.Goals as goal

pub returns-in_err-nth : goal.returns-in_err-nth
returns-in_err-nth c = error_exit _ _ _ _ c.from_residual-in_err-nth.ensures.1 (number_fault expression form_meant _ _ _ _ c.form_in.ensures c.in_ok-form.ensures c.in_err-nth.ensures)
