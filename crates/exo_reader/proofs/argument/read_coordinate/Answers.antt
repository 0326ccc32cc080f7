use Rattle.text_phrases.proofs.Exits.{exit}
use Rattle.text_phrases.proofs.Sequences.{step_taken}
use Rattle.text_phrases.proofs.Joints.{whole_err}
use Rattle.exo_reader.proofs.Coordinates.{point_taken, coordinate_err, step_span}
use Rattle.exo_reader.proofs.argument.read_coordinate.Goals as goal

pub returns-in_err-low-clause-reads : goal.returns-in_err-low-clause-reads
returns-in_err-low-clause-reads c = exit _ _ _ _ _ _ c.from_residual.ensures.1 (coordinate_err _ _ c.in_err-low.ensures.reads)

pub returns-in_default-clause-reads : goal.returns-in_default-clause-reads
returns-in_default-clause-reads c = rw c.into_inner.ensures (point_taken _ _ _ c.in_ok-low.ensures.reads c.in_default.ensures)

pub returns-in_err-high-clause-reads : goal.returns-in_err-high-clause-reads
returns-in_err-high-clause-reads c = exit _ _ _ _ _ _ c.from_residual-in_err-high.ensures.1 (whole_err _ _ _ _ _ _ (step_span _ _ _ _ c.in_ok-low.ensures.reads c.in-Some.ensures) c.in_err-high.ensures)

pub returns-clause-reads : goal.returns-clause-reads
returns-clause-reads c = rw (c.into_inner-2.ensures, c.into_inner-3.ensures) (step_taken _ _ _ _ _ _ _ (step_span _ _ _ _ c.in_ok-low.ensures.reads c.in-Some.ensures) c.in_ok-high.ensures)
