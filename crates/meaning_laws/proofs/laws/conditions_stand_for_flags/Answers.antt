use Rattle.meaning_laws.proofs.Flags.{flag_law}
use Rattle.meaning_laws.proofs.laws.conditions_stand_for_flags.Goals as goal

pub returns : goal.returns
returns c = flag_law
