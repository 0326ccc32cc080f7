use Rattle.std.proofs.Common.{◌∙◌, map}
use Rattle.exo_tree.specs.PlainUnit.{program}
use Rattle.c_printer.specs.PlainPrinted.{printing}
use Rattle.c_printer.proofs.Marking.{fields_are}
use Rattle.c_printer.proofs.units.used_names.Goals as goal

pub returns : goal.returns
returns c = c.in_ok-names.ensures ∙ fields_are (program c.args.unit.now) (map printing c.args.what.now) c.args.counted.now c.requires
