use Rattle.std.proofs.Common.{refl}
use Rattle.unit_check.proofs.showing.Showing.new.Goals as goal

pub returns : goal.returns
returns c = λ d. record { exact = refl; taken = c.new.ensures d }
