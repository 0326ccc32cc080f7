use Rattle.std.proofs.Common.{◌∙◌, option_map}
use Rattle.std.specs.Option.{option_copied}
use Rattle.exo_tree.specs.PlainProcedure.{procedure}
use Rattle.exo_tree.specs.PlainStatement.{statement}
use Rattle.field_rewrites.specs.PlainCall.{plain_call}
use Rattle.field_rewrites.proofs.FieldArguments.{somebody_called}
use Rattle.field_rewrites.proofs.bound.bound_at.Goals as goal

pub returns-clause-bound : goal.returns-clause-bound
returns-clause-bound c = λ f.
    c.bound_in.ensures.bound f
    ∙ somebody_called c.args.on.now.unit.now.procs c.args.name.now
    (option_map statement (option_copied c.args.s)) (plain_call c.in_ok-call.call) c.in_ok-call.ensures
    (procedure c.in_ok-callee.callee.now) c.in_ok-callee.ensures f
