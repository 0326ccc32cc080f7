-- What is left decides, and would make of the table as it is what all arguments make of it as it was.
use Rattle.std.proofs.Common.{◌≡◌, drop, map}
use Rattle.exo_tree.specs.PlainArgument.{argument}
use Rattle.c_widths.specs.Widths.{are_narrow_arguments}
use Rattle.c_widths.specs.Bounds.{most_in}
use Rattle.c_widths.specs.Raises.{raised_by}
use Rattle.c_widths.specs.Given.{IsChanged}
use Rattle.c_widths.proofs.statements.fits_call.Given as goal

abbrev pub invariant-loop-i : goal.invariant-loop-i
invariant-loop-i l = record {
  narrow : are_narrow_arguments (most_in l.bounds) (map argument (drop l.i l.a-items)) ≡ are_narrow_arguments (most_in l.bounds) l.args;
  given : (new : _) → IsChanged (raised_by (most_in l.bounds) l.p.0 l.i (map argument (drop l.i l.a-items))) l.given new → IsChanged (raised_by (most_in l.bounds) l.p.0 0 l.args) l.initial.given new;
}
