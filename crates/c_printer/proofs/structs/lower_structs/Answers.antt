use Rattle.std.proofs.Common.{◌∙◌, map}
use Rattle.c_tree.specs.Plain.{plain_function}
use Rattle.c_lowering.specs.Made.LoweredUnit.{all_structs}
use Rattle.c_printer.proofs.Ranks.{found_are}
use Rattle.c_printer.proofs.structs.lower_structs.Goals as goal

pub returns : goal.returns
returns c = c.in_ok-made.ensures ∙ found_are (map plain_function c.args.functions.now) c.in_ok-found.found c.in_ok-found.ensures all_structs
