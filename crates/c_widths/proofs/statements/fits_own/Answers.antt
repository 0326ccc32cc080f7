use Rattle.std.proofs.Common.{◌∙◌, ap, map, take}
use Rattle.exo_tree.specs.PlainControl.{control}
use Rattle.c_widths.specs.Bounds.{most_in}
use Rattle.c_widths.specs.Widths.{fits_cells}
use Rattle.c_widths.proofs.Stack.{own_part}
use Rattle.c_widths.proofs.statements.fits_own.Goals as goal

pub returns : goal.returns
returns c = c.fits_cells-2.ensures ∙ ap (fits_cells (most_in c.args.bounds.now)) (ap (λ n. map control (take n c.as_slice-all.result.now)) c.saturating_sub.ensures ∙ own_part control c.args.lanes c.as_slice-all.result.now c.args.dims.now c.if-lanes-eq0.false c.as_slice-all.ensures)
