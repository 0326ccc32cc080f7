use Rattle.std.proofs.Common.{◌∙◌, map, replicate, false, length}
use Rattle.exo_tree.specs.PlainUnit.{program}
use Rattle.c_printer.specs.PlainPrinted.{printing}
use Rattle.c_printer.proofs.Agreed.{all_counted}
use Rattle.c_printer.proofs.Marking.{none_in, length_none}
use Rattle.c_printer.proofs.counted.counted.Goals as goal

pub close-requires : goal.close-requires
close-requires c = c.in_ok-marks.ensures.same_length ∙ length_none (length c.args.unit.now.procs)

pub returns : goal.returns
returns c =
    let n = length c.args.unit.now.procs in
    all_counted (program c.args.unit.now) (map printing c.args.what.now) (replicate n false) c.in_ok-marks.marks c.close.new.marks (length_none n) (none_in n) c.in_ok-marks.ensures c.close.ensures
