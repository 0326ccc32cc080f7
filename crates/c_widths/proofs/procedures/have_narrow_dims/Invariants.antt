-- What is left decides.
use Rattle.std.proofs.Common.{◌≡◌, drop, map}
use Rattle.exo_tree.specs.PlainParam.{parameter}
use Rattle.c_widths.specs.Widths.{have_narrow_dims}
use Rattle.c_widths.specs.Bounds.{most_in}
use Rattle.c_widths.proofs.procedures.have_narrow_dims.Given as goal

abbrev pub invariant-loop-p : goal.invariant-loop-p
invariant-loop-p l = have_narrow_dims (most_in l.bounds) (map parameter (drop l.p-index l.p-items)) ≡ have_narrow_dims (most_in l.bounds) l.params
