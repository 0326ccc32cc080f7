use Rattle.alloc_laws.proofs.OfGoes.SumsGo.{sums_go}
use Rattle.alloc_laws.proofs.goes.laws.staged_sums_may_leave_names.Goals as goal

pub returns : goal.returns
returns c = sums_go
