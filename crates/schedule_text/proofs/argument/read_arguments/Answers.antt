use Rattle.text_phrases.proofs.Exits.{exit}
use Rattle.text_phrases.proofs.Sequences.{step_taken}
use Rattle.text_phrases.proofs.Joints.{whole_err, now, later, both}
use Rattle.schedule_text.proofs.Arguments.{step_arguments, arguments1}
use Rattle.schedule_text.proofs.argument.read_arguments.Goals as goal

pub returns-in_err-first : goal.returns-in_err-first
returns-in_err-first c = exit _ _ _ _ _ _ c.from_residual.ensures.1 (whole_err _ _ _ _ _ _ (step_arguments _) (now arguments1 _ _ c.in_err-first.ensures))

pub returns-in_err-more : goal.returns-in_err-more
returns-in_err-more c = exit _ _ _ _ _ _ c.from_residual-in_err-more.ensures.1 (whole_err _ _ _ _ _ _ (step_arguments _) (later arguments1 c.in_ok-first.ensures _ c.in_err-more.ensures))

pub returns : goal.returns
returns c = step_taken _ _ _ _ _ _ _ (step_arguments _) (both arguments1 c.in_ok-first.ensures c.in_ok-more.ensures)
