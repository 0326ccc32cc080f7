use Rattle.std.proofs.Common.{◌≡◌, true, refl, sym, subst, List, ap₂}
use Rattle.exo_tree.specs.Tree.{Program}
use Rattle.exo_tree.specs.PlainProcedure.{procedure}
use Rattle.config_laws.specs.Differing.{Origin}
use Rattle.cursor_forward.specs.PlainProposal.{plain_proposal}
use Rattle.step_driver.specs.PlainTarget.{target}
use Rattle.schedule_calls.specs.PlainRequest.{plain_asked}
use Rattle.schedule_laws.specs.Versions.Lines as lines
use Rattle.schedule_laws.specs.Operators.Places.{statement_in}
use Rattle.schedule_run.specs.Outcomes.{Makes}
use Rattle.schedule_run.specs.PlainVersions.{versions}
use Rattle.schedule_run.proofs.Asking.{asked_there}
use Rattle.schedule_run.proofs.planning.at_statement.Goals as goal

pub returns : goal.returns
returns g c =
    let v = versions c.args.s.now in
    let k = c.args.on.now.number.0 in
    let p = procedure c.args.on.now.proc.now in
    let same : target c.args.on.now ≡ lines.target v k p =
    ap₂ (λ (u : Program) (os : List Origin). record { unit = u; origins = os; number = k; proc = p })
    c.requires.unit c.requires.origins in
    subst (λ m. Makes plain_proposal m c.proposed.result)
    (sym
    (asked_there v k p (λ v. true) (plain_asked c.args.at.now) statement_in
    (λ v t path. record { rule = g.O.Operator.rule c.args.op.now; at = path })
    (target c.args.on.now) same refl c.in_ok-path.path c.in_ok-path.ensures))
    c.proposed.ensures
