use Rattle.inplace_laws.proofs.Passed.{passed_apart}
use Rattle.inplace_laws.proofs.laws.passed_windows_are_apart.Goals as goal

pub returns : goal.returns
returns c = passed_apart
