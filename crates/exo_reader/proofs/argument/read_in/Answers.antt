use Rattle.std.proofs.Common.{sym}
use Rattle.text_phrases.proofs.Exits.{exit}
use Rattle.exo_reader.proofs.Windows.{value_taken, value_err}
use Rattle.exo_reader.proofs.argument.read_in.Goals as goal

pub returns-in-Some : goal.returns-in-Some
returns-in-Some c = rw (c.in-Some.ensures.0, sym c.in_ok-copy.ensures) c.read_bracketed.ensures

pub returns-in_err-value : goal.returns-in_err-value
returns-in_err-value c = exit _ _ _ _ _ _ c.from_residual-in_err-value.ensures.1 (value_err _ _ _ c.requires.place c.in_default.ensures c.in_err-value.ensures.reads)

pub returns : goal.returns
returns c = rw c.into_inner.ensures (value_taken _ _ _ _ c.in_default.ensures c.in_ok-value.ensures.reads)
