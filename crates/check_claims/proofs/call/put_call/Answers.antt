use Rattle.std.proofs.Common.{sym}
use Rattle.exo_tree.specs.PlainProcedure.{procedure}
use Rattle.exo_tree.specs.PlainUnit.{program}
use Rattle.check_claims.proofs.ShortUnits.{few_there}
use Rattle.check_claims.proofs.call.put_call.Goals as goal

pub put_call_of-requires : goal.put_call_of-requires
put_call_of-requires c =
    few_there (program c.args.site.now.unit.now).procedures c.args.k.0 (procedure c.in-Some.q.now) c.args.site.now.few (sym c.in-Some.ensures)
