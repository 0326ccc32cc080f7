use Rattle.std.proofs.Common.{subst}
use Rattle.ob_check.specs.Truth.{IsTrueOf}
use Rattle.ob_check.proofs.obligations.verdict_of.Goals as goal

pub returns : goal.returns
returns c = subst (λ s. IsTrueOf s c.known_of.result.verdict) c.known_of.ensures c.known_of.result.is_true
