use Rattle.text_phrases.proofs.Exits.{exit}
use Rattle.text_phrases.proofs.Sequences.{step_taken}
use Rattle.text_phrases.proofs.Joints.{whole_err, now, later, both}
use Rattle.exo_reader.proofs.Made.{made_configure}
use Rattle.exo_reader.proofs.Statements.{step_configuring, config1}
use Rattle.exo_reader.proofs.statement.read_config.Goals as goal

pub returns-in_err-field : goal.returns-in_err-field
returns-in_err-field c = λ nesting. exit _ _ _ _ _ _ c.from_residual.ensures.1 (whole_err _ _ _ _ _ _ (step_configuring nesting _ _ c.requires) (now config1 _ _ c.in_err-field.ensures))

pub returns-in_err-value : goal.returns-in_err-value
returns-in_err-value c = λ nesting. exit _ _ _ _ _ _ c.from_residual-in_err-value.ensures.1 (whole_err _ _ _ _ _ _ (step_configuring nesting _ _ c.requires) (later config1 c.in_ok-field.ensures _ c.in_err-value.ensures))

pub returns : goal.returns
returns c = λ nesting. rw (made_configure _ _ _, c.into_inner.ensures) (step_taken _ _ _ _ _ _ _ (step_configuring nesting _ _ c.requires) (both config1 c.in_ok-field.ensures c.in_ok-value.ensures))
