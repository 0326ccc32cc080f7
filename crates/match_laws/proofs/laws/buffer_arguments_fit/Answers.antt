use Rattle.match_laws.proofs.ArgumentFits.{argument_fits}
use Rattle.match_laws.proofs.laws.buffer_arguments_fit.Goals as goal

pub returns : goal.returns
returns c = argument_fits
