-- What follows of an answer, whatever the rule.
use Rattle.std.proofs.Common.{Result, Ok, Err, IfOk}
use Rattle.exo_tree.specs.Places.{Path}
use Rattle.cursor_forward.specs.PlainProposal.{plain_proposal}
use Rattle.cursor_forward.specs.declared.proposal.Proposal.{Proposal}
use Rattle.cursor_forward.specs.declared.proposal.StepError.{StepError}
use Rattle.step_rules.specs.Rule.{Target, Rule}
use Rattle.step_rules.specs.Answer.{proposed}
use Rattle.step_rules.specs.Lawful.{IsTarget, IsLawful, IsCarrying}
use Rattle.step_rules.specs.Laws.{KeptLaw, MeaningLaw, ForwardsLaw}
use Rattle.step_driver.specs.Outcomes.{Tries, IsKept, KeepsMeaning, Moves}

module _ (r : Rule) (t : Target) (at : Path) where
  pub answers_kept : (result : Result Proposal StepError) → KeptLaw → IsTarget t
      → Tries plain_proposal (proposed r t at) result
      → IfOk result (λ m. IsKept t (plain_proposal m))
  answers_kept (Ok m) law is h = λ room. law r t at (plain_proposal m) is room h
  answers_kept (Err e) law is h = tt

  pub answers_mean : (result : Result Proposal StepError) → MeaningLaw → IsLawful r → IsTarget t
      → Tries plain_proposal (proposed r t at) result
      → IfOk result (λ m. KeepsMeaning t (plain_proposal m))
  answers_mean (Ok m) law lawful is h =
      λ versions. law r t at (plain_proposal m) lawful is versions h
  answers_mean (Err e) law lawful is h = tt

  pub answers_move : (result : Result Proposal StepError) → ForwardsLaw → IsCarrying r → IsTarget t
      → Tries plain_proposal (proposed r t at) result
      → IfOk result (λ m. Moves t (plain_proposal m))
  answers_move (Ok m) law carrying is h = law r t at (plain_proposal m) carrying is h
  answers_move (Err e) law carrying is h = tt
