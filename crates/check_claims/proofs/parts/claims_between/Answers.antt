use Rattle.std.proofs.Common.{sym}
use Rattle.exo_tree.specs.PlainProcedure.{procedure}
use Rattle.exo_tree.specs.PlainUnit.{program}
use Rattle.check_claims.proofs.ShortUnits.{unit_short, unit_few}
use Rattle.check_claims.proofs.parts.claims_between.Goals as goal

pub part_of-requires-clause-short : goal.part_of-requires-clause-short
part_of-requires-clause-short c = (unit_short (program c.args.unit.now) c.args.p.0 (procedure c.in-Some.found.now) c.requires.unit (sym c.in-Some.ensures)).short

pub part_of-requires-clause-inside : goal.part_of-requires-clause-inside
part_of-requires-clause-inside c = (unit_short (program c.args.unit.now) c.args.p.0 (procedure c.in-Some.found.now) c.requires.unit (sym c.in-Some.ensures)).inside

pub part_of-requires-clause-levels : goal.part_of-requires-clause-levels
part_of-requires-clause-levels c = (unit_short (program c.args.unit.now) c.args.p.0 (procedure c.in-Some.found.now) c.requires.unit (sym c.in-Some.ensures)).levels

pub part_of-requires-clause-few : goal.part_of-requires-clause-few
part_of-requires-clause-few c = unit_few (program c.args.unit.now) c.requires.unit

pub part_of-requires-clause-sources : goal.part_of-requires-clause-sources
part_of-requires-clause-sources c =
    c.requires.sources (procedure c.in-Some.found.now) (sym c.in-Some.ensures)
