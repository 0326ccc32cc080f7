use Rattle.inplace_laws.proofs.SteadyFlags.{steady_flag_law}
use Rattle.inplace_laws.proofs.laws.steady_conditions_stand_for_flags.Goals as goal

pub returns : goal.returns
returns c = steady_flag_law
