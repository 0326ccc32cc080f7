use Rattle.schedule_text.proofs.OfPatterns.Faults.{error_exit}
use Rattle.schedule_text.proofs.patterns.text.with_number.Goals as goal

pub returns-in_err-nth : goal.returns-in_err-nth
returns-in_err-nth g c = error_exit _ _ _ _ c.from_residual.ensures.1 c.in_err-nth.ensures
