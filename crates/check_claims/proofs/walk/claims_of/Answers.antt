use Rattle.std.proofs.Common.{sym}
use Rattle.exo_tree.specs.PlainProcedure.{procedure}
use Rattle.exo_tree.specs.PlainUnit.{program}
use Rattle.check_claims.proofs.ShortUnits.{unit_short, unit_few}
use Rattle.check_claims.proofs.walk.claims_of.Goals as goal

pub put_claims-requires-clause-short : goal.put_claims-requires-clause-short
put_claims-requires-clause-short c = (unit_short (program c.args.unit.now) c.args.p.0 (procedure c.in-Some.found.now) c.requires.unit (sym c.in-Some.ensures)).short

pub put_claims-requires-clause-inside : goal.put_claims-requires-clause-inside
put_claims-requires-clause-inside c = (unit_short (program c.args.unit.now) c.args.p.0 (procedure c.in-Some.found.now) c.requires.unit (sym c.in-Some.ensures)).inside

pub put_claims-requires-clause-levels : goal.put_claims-requires-clause-levels
put_claims-requires-clause-levels c = (unit_short (program c.args.unit.now) c.args.p.0 (procedure c.in-Some.found.now) c.requires.unit (sym c.in-Some.ensures)).levels

pub put_claims-requires-clause-few : goal.put_claims-requires-clause-few
put_claims-requires-clause-few c = unit_few (program c.args.unit.now) c.requires.unit
