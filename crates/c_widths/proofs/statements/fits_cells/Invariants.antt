-- What is left decides, so many times as there are cells so far.
use Rattle.std.proofs.Common.{◌≡◌, drop, map}
use Rattle.exo_tree.specs.PlainControl.{control}
use Rattle.c_widths.specs.Widths.{fits_cells}
use Rattle.c_widths.specs.Bounds.{most_in}
use Rattle.c_widths.proofs.Stack.{fit_times}
use Rattle.c_widths.proofs.statements.fits_cells.Given as goal

abbrev pub invariant-loop-d : goal.invariant-loop-d
invariant-loop-d l = fit_times (most_in l.bounds) l.cells (map control (drop l.d-index l.dims)) ≡ fits_cells (most_in l.bounds) (map control l.dims)
