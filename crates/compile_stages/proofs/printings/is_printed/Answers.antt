use Rattle.std.proofs.Common.{◌∙◌}
use Rattle.compile_stages.proofs.Listing.{both_on, both_off}
use Rattle.compile_stages.proofs.printings.is_printed.Goals as goal

pub returns-then-has : goal.returns-then-has
returns-then-has c = both_on c.has.result _ c.is_function.result _ c.has.ensures c.if-has.true c.is_function.ensures

pub returns-else-has : goal.returns-else-has
returns-else-has c = c.if-has.false ∙ both_off c.has.result _ _ c.has.ensures c.if-has.false
