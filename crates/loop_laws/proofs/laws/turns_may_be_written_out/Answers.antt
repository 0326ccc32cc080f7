use Rattle.loop_laws.proofs.Copies.{turns_may_be_written_out}
use Rattle.loop_laws.proofs.laws.turns_may_be_written_out.Goals as goal

pub returns : goal.returns
returns c = turns_may_be_written_out
