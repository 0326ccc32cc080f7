use Rattle.std.proofs.Common.{◌∙◌}
use Rattle.schedule_text.specs.Patterns.Grammar.{statement}
use Rattle.schedule_text.proofs.OfPatterns.Faults.{fault_in}
use Rattle.schedule_text.proofs.patterns.text.read_statement_form.Goals as goal

pub returns : goal.returns
returns c =
    fault_in statement _ _ _ _ _ _ _ (c.as_slice.ensures.value ∙ c.in-Ok.ensures.tokens) (c.as_slice-in-Err.ensures.value ∙ c.in-Ok.ensures.tokens) (c.as_slice-in-Err-2.ensures.value ∙ c.in-Ok.ensures.places)
    c.in-Err.ensures c.error_of.ensures
