use Rattle.std.proofs.Common.{nat_lt}
use Rattle.exo_meaning.specs.Units.{levels}
use Rattle.affine_places.specs.Rules.{procedure_keeps_rules}
use Rattle.check_facts.proofs.Rooms.{both_hold}
use Rattle.check_facts.proofs.laws.well_formed_procedures_may_be_walked.Goals as goal

pub returns : goal.returns
returns c = λ fields memories callees p good. both_hold (procedure_keeps_rules p) (nat_lt (levels p.body) 33) (c.well_formed_procedures_are_affine.ensures fields memories callees p good) good.paths
