use Rattle.call_laws.proofs.Each.{each_is_read}
use Rattle.call_laws.proofs.laws.each_is_read.Goals as goal

pub returns : goal.returns
returns c = each_is_read
