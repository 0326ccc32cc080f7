use Rattle.text_phrases.proofs.Exits.{exit}
use Rattle.text_phrases.proofs.Sequences.{step_taken}
use Rattle.text_phrases.proofs.Joints.{whole_err}
use Rattle.text_expressions.proofs.Made.{made_field}
use Rattle.text_expressions.proofs.Productions.{step_field}
use Rattle.text_expressions.proofs.Returns.{renamed}
use Rattle.text_expressions.proofs.expression.read_field.Goals as goal

pub returns-in_err-field-clause-reads : goal.returns-in_err-field-clause-reads
returns-in_err-field-clause-reads c = exit _ _ _ _ _ _ c.from_residual.ensures.1 (whole_err _ _ _ _ _ _ (step_field _ _ _ c.requires.place c.requires.short) c.in_err-field.ensures)

pub returns-clause-reads : goal.returns-clause-reads
returns-clause-reads c = c.leaf.ensures.reads _ _ (renamed (made_field _ _) (step_taken _ _ _ _ _ _ _ (step_field _ _ _ c.requires.place c.requires.short) c.in_ok-field.ensures))
