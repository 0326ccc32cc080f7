use Rattle.exo_tree.specs.PlainUnit.{program}
use Rattle.check_claims.proofs.ShortUnits.{unit_few}
use Rattle.check_claims.proofs.walk.claims_there.Goals as goal

pub own_there-requires-clause-few : goal.own_there-requires-clause-few
own_there-requires-clause-few c = unit_few (program c.args.unit.now) c.requires.unit
