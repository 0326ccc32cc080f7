use Rattle.cursor_forward.specs.Search.PlainPattern.{plain_pattern}
use Rattle.schedule_text.specs.Patterns.Grammar.{statement, meant}
use Rattle.schedule_text.proofs.OfPatterns.Faults.{numbered}
use Rattle.schedule_text.proofs.patterns.text.read_pattern.Goals as goal

pub returns : goal.returns
returns c = numbered statement meant _ _ plain_pattern _ (λ x. x.0) (λ x. x.1) _ c.form_in.ensures c.in_ok-pattern.ensures c.with_number.ensures
