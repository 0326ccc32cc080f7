use Rattle.std.proofs.Common.{◌∙◌, sym}
use Rattle.text_phrases.proofs.Exits.{exit}
use Rattle.exo_reader.proofs.Strings.{spanned_err, spanned_taken, spanned_none}
use Rattle.exo_reader.proofs.string.read_spanned.Goals as goal

pub returns-in_err-coords : goal.returns-in_err-coords
returns-in_err-coords c = exit _ _ _ _ _ _ c.from_residual.ensures.1 (spanned_err _ _ c.in_err-coords.ensures.reads)

pub returns-then-coords : goal.returns-then-coords
returns-then-coords c = spanned_taken _ _ _ c.in_ok-coords.ensures.reads (sym c.in_ok-coords.ensures.noted.spans ∙ c.if-coords.true)

pub returns : goal.returns
returns c = spanned_none _ _ _ c.in_ok-coords.ensures.reads (sym c.in_ok-coords.ensures.noted.spans ∙ c.if-coords.false)
