use Rattle.std.proofs.Common.{◌≡◌, List, ℕ, map, ap, ◌∙◌, subst}
use Rattle.config_live.specs.Origins.{number}
use Rattle.step_driver.specs.Needs.Outcomes.{Refuses}
use Rattle.step_driver.specs.PlainTarget.{target}
use Rattle.field_rewrites.specs.Beside.{first_at, cause_of_any}
use Rattle.field_rewrites.specs.PlainCall.{fields_called}
use Rattle.field_rewrites.proofs.AnsweredCalls.{called_known}
use Rattle.field_rewrites.proofs.calling.CallingVersionOperator.refusal.Goals as goal

pub unless_one_is_live-requires-clause-known : goal.unless_one_is_live-requires-clause-known
unless_one_is_live-requires-clause-known c =
    let j = c.args.self.now.version.0 in
    called_known (target c.args.on.now) j (first_at c.args.on.now c.args.piece.now)
    (map number c.deref.result.now)
    (ap (map number) c.deref.ensures.value
    ∙ c.in_ok-fields.ensures ∙ ap (fields_called c.args.on.now j) c.first_at.ensures)

pub returns : goal.returns
returns c =
    let on = c.args.on.now in
    let j = c.args.self.now.version.0 in
    let told : map number c.deref.result.now ≡ fields_called on j (first_at on c.args.piece.now) =
    ap (map number) c.deref.ensures.value
    ∙ c.in_ok-fields.ensures ∙ ap (fields_called on j) c.first_at.ensures in
    subst (λ (fs : List ℕ). Refuses (cause_of_any on c.args.piece.now fs) c.unless_one_is_live.result) told
    c.unless_one_is_live.ensures
