use Rattle.std.proofs.Common.{◌∙◌, sym, map}
use Rattle.exo_tree.specs.PlainUnit.{program}
use Rattle.c_printer.specs.PlainPrinted.{printing}
use Rattle.c_printer.proofs.units.lower.Goals as goal

pub returns-in-Some-clause-err : goal.returns-in-Some-clause-err
returns-in-Some-clause-err c = c.wide.ensures (program c.args.unit.now) (map printing c.args.what.now) (sym c.in_ok-k.ensures ∙ c.in-Some.is)
