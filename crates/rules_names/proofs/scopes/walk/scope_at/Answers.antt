use Rattle.std.proofs.Common.{sym}
use Rattle.exo_tree.specs.PlainProcedure.{procedure}
use Rattle.exo_tree.specs.PlainUnit.{program}
use Rattle.rules_names.proofs.OfScopes.Procedures.{unit_new}
use Rattle.rules_names.proofs.scopes.walk.scope_at.Goals as goal

pub scope_in-requires-clause-params : goal.scope_in-requires-clause-params
scope_in-requires-clause-params c = (unit_new (program c.args.unit.now) c.args.p.0 (procedure c.in-Some.found.now) c.requires (sym c.in-Some.ensures)).params

pub scope_in-requires-clause-body : goal.scope_in-requires-clause-body
scope_in-requires-clause-body c = (unit_new (program c.args.unit.now) c.args.p.0 (procedure c.in-Some.found.now) c.requires (sym c.in-Some.ensures)).body
