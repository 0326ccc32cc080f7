use Rattle.call_laws.proofs.OfReplace.ComesAlike.{comes_alike}
use Rattle.call_laws.proofs.replace.laws.runs_come_alike.Goals as goal

pub returns : goal.returns
returns c = comes_alike
