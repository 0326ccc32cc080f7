use Rattle.text_phrases.proofs.Exits.{exit}
use Rattle.text_phrases.proofs.Sequences.{step_taken}
use Rattle.text_phrases.proofs.Joints.{whole_err, now, later, both}
use Rattle.exo_reader.proofs.Statements.{stored1, step_storing}
use Rattle.exo_reader.proofs.statement.read_stored.Goals as goal

pub returns-in_err-list : goal.returns-in_err-list
returns-in_err-list c = λ nesting. exit _ _ _ _ _ _ c.from_residual.ensures.1 (whole_err _ _ _ _ _ _ (step_storing nesting _ _ c.requires.short c.requires.front) (now stored1 _ _ c.in_err-list.ensures))

pub returns-in_err-reduces : goal.returns-in_err-reduces
returns-in_err-reduces c = λ nesting. exit _ _ _ _ _ _ c.from_residual-in_err-reduces.ensures.1 (whole_err _ _ _ _ _ _ (step_storing nesting _ _ c.requires.short c.requires.front) (later stored1 c.in_ok-list.ensures _ c.in_err-reduces.ensures))

pub returns : goal.returns
returns c = λ nesting. rw c.stored.ensures (step_taken _ _ _ _ _ _ _ (step_storing nesting _ _ c.requires.short c.requires.front) (both stored1 c.in_ok-list.ensures c.in_ok-reduces.ensures))
