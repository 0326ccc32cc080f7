use Rattle.alloc_laws.proofs.OfGoes.Passing.{passed_by_tests}
use Rattle.alloc_laws.proofs.goes.laws.staged_blocks_pass_by_tests.Goals as goal

pub returns : goal.returns
returns c = passed_by_tests
