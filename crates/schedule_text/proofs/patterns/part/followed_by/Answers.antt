use Rattle.std.proofs.Common.{refl}
use Rattle.schedule_text.proofs.OfPatterns.Meanings.{exit_as, means}
use Rattle.schedule_text.proofs.patterns.part.followed_by.Goals as goal

pub returns-in_err-rest : goal.returns-in_err-rest
returns-in_err-rest g c = exit_as _ _ _ _ _ c.from_residual.ensures.1 c.in_err-rest.ensures

pub returns : goal.returns
returns g c = means _ _ _ _ _ _ c.in_ok-rest.ensures refl
