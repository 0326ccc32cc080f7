use Rattle.std.proofs.Common.{map, ap, ◌∙◌}
use Rattle.config_live.specs.Origins.{number}
use Rattle.step_driver.specs.PlainTarget.{target}
use Rattle.field_rewrites.specs.Beside.{first_at}
use Rattle.field_rewrites.specs.PlainCall.{fields_called}
use Rattle.field_rewrites.proofs.AnsweredCalls.{told_behind}
use Rattle.field_rewrites.proofs.calling.CallingVersionOperator.exit.Goals as goal

pub returns : goal.returns
returns c =
    let j = c.args.self.now.version.0 in
    told_behind (target c.args.on.now) j (first_at c.args.on.now c.args.piece.now)
    (map number c.in_ok-fields.fields.items) c.duplicate.result c.args.piece.now.path
    (c.in_ok-fields.ensures ∙ ap (fields_called c.args.on.now j) c.first_at.ensures) c.duplicate.ensures
