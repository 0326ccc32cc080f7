use Rattle.alloc_laws.proofs.OfGoes.SumsGo.{unseen_goes}
use Rattle.alloc_laws.proofs.goes.laws.unseen_windows_may_be_staged.Goals as goal

pub returns : goal.returns
returns c = unseen_goes
