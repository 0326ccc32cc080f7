use Rattle.call_laws.proofs.OfReplace.ComesAlike.{comes_as_before}
use Rattle.call_laws.proofs.replace.laws.runs_come_as_before.Goals as goal

pub returns : goal.returns
returns c = comes_as_before
