use Rattle.std.proofs.Common.{◌∙◌, sym, arith}
use Rattle.text_phrases.proofs.Exits.{exit}
use Rattle.exo_reader.proofs.Windows.{coords_err, coords_open, window_taken, cell_deep, cell_taken, cell_value, cell_err, cell_made}
use Rattle.exo_reader.proofs.argument.read_bracketed.Goals as goal

pub returns-in_err-coords : goal.returns-in_err-coords
returns-in_err-coords c = exit _ _ _ _ _ _ c.from_residual.ensures.1 (coords_err _ _ _ _ c.requires.depth c.requires.short c.in_err-coords.ensures.reads)

pub returns-in_err-after : goal.returns-in_err-after
returns-in_err-after c = exit _ _ _ _ _ _ c.from_residual-in_err-after.ensures.1 (rw c.in_err-after.ensures.0 (coords_open _ _ _ _ _ c.requires.depth c.requires.short c.in_ok-coords.ensures.reads c.in_err-after.ensures.1))

pub returns-then-coords : goal.returns-then-coords
returns-then-coords c = window_taken _ _ _ _ _ _ c.requires.depth c.requires.short c.in_ok-coords.ensures.reads c.in_ok-after.ensures (sym c.in_ok-coords.ensures.noted.spans ∙ c.if-coords.true)

pub returns-then-coords-room : goal.returns-then-coords-room
returns-then-coords-room c = cell_deep _ _ _ _ _ _ c.requires.depth c.requires.short c.in_ok-coords.ensures.reads c.in_ok-after.ensures (sym c.in_ok-coords.ensures.noted.spans ∙ c.if-coords.false) (omega (arith, c.in_ok-coords.ensures.noted.depth))

pub returns-in_err-value : goal.returns-in_err-value
returns-in_err-value c = exit _ _ _ _ _ _ c.from_residual-in_err-value.ensures.1 (cell_err _ _ _ _ _ _ _ c.in_ok-coords.ensures.reads c.in_ok-after.ensures (sym c.in_ok-coords.ensures.noted.spans ∙ c.if-coords.false) (cell_taken _ _ _ _ _ _ c.requires.place c.requires.depth c.requires.short c.in_ok-coords.ensures.reads c.in_ok-after.ensures (sym c.in_ok-coords.ensures.noted.spans ∙ c.if-coords.false) (omega (arith, c.in_ok-coords.ensures.noted.depth))) (c.in_err-value.ensures.reads _ (cell_made _ _ _ _ _ _ _ c.in_ok-cell.ensures.same c.requires.place c.requires.depth c.requires.short c.in_ok-coords.ensures.reads c.in_ok-after.ensures (sym c.in_ok-coords.ensures.noted.spans ∙ c.if-coords.false) (omega (arith, c.in_ok-coords.ensures.noted.depth)))))

pub returns : goal.returns
returns c = rw c.into_inner.ensures (cell_value _ _ _ _ _ _ _ _ c.in_ok-coords.ensures.reads c.in_ok-after.ensures (sym c.in_ok-coords.ensures.noted.spans ∙ c.if-coords.false) (cell_taken _ _ _ _ _ _ c.requires.place c.requires.depth c.requires.short c.in_ok-coords.ensures.reads c.in_ok-after.ensures (sym c.in_ok-coords.ensures.noted.spans ∙ c.if-coords.false) (omega (arith, c.in_ok-coords.ensures.noted.depth))) (c.in_ok-value.ensures.reads _ (cell_made _ _ _ _ _ _ _ c.in_ok-cell.ensures.same c.requires.place c.requires.depth c.requires.short c.in_ok-coords.ensures.reads c.in_ok-after.ensures (sym c.in_ok-coords.ensures.noted.spans ∙ c.if-coords.false) (omega (arith, c.in_ok-coords.ensures.noted.depth)))))
