use Rattle.compile_stages.proofs.Listing.{function_is}
use Rattle.compile_stages.proofs.printings.is_function.Goals as goal

pub returns : goal.returns
returns c = function_is c.args.p.now.template c.is_none.result c.is_none.ensures
