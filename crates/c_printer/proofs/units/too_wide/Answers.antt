use Rattle.std.proofs.Common.{◌∙◌, ◌||◌, ap, map, length, arith}
use Rattle.exo_tree.specs.PlainUnit.{program}
use Rattle.exo_modes.specs.Calls.Marked.{contains}
use Rattle.c_lowering.specs.Made.LoweredUnit.{is_listed, counts}
use Rattle.c_printer.specs.PlainPrinted.{printing}
use Rattle.c_printer.proofs.Marking.{none_in, length_none}
use Rattle.c_printer.proofs.units.too_wide.Goals as goal

pub returns : goal.returns
returns c =
    let unit = program c.args.unit.now in
    let what = map printing c.args.what.now in
    let n = length c.args.unit.now.procs in
    c.in_ok-found.ensures
    ∙ c.widest_is_of_the_unit.ensures unit (contains c.in_ok-printed.printed) (is_listed what) (contains c.args.counted.now) (counts unit what)
    (λ k h. c.in_ok-printed.ensures.each k (omega (arith, h, length_none n)) ∙ ap (λ t. t || is_listed what k) (none_in n k))
    c.requires
