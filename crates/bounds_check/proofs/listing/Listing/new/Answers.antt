use Rattle.std.proofs.Common.{rules, ◌≡◌, Some, slice_get, refl, sym}
use Rattle.exo_tree.specs.PlainProcedure.{procedure}
use Rattle.exo_tree.specs.PlainUnit.{program}
use Rattle.bounds_check.proofs.WellFormed.{walked, extents_there}
use Rattle.bounds_check.proofs.Listed.{some_places}
use Rattle.bounds_check.proofs.listing.Listing.new.Goals as goal

pub of-requires : goal.of-requires
of-requires c =
    let u = program c.args.unit.now in
    let p = procedure c.in-Some.proc.now in
    let found : slice_get u.procedures c.args.number.0 ≡ Some p = search rules in
    extents_there p
    (walked c.well_formed_procedures_may_be_walked.ensures u c.args.number.0 p c.requires.unit found)

pub returns : goal.returns
returns c =
    let u = program c.args.unit.now in
    let p = procedure c.in-Some.proc.now in
    let found : slice_get u.procedures c.args.number.0 ≡ Some p = search rules in (
      record {
        formed = c.requires.unit;
        found = found;
        roots = c.in_ok-roots.ensures;
        sources = c.in_ok-sources.ensures;
        writes = c.requires.table;
        modes = c.requires.modes;
        fine = refl;
        amount = c.none.ensures;
        more = some_places u p;
      },
      refl,
      sym found,
      refl,
    )
