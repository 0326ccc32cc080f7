use Rattle.std.proofs.Common.{◌≡◌, sym, subst, List, ap₂}
use Rattle.std.specs.List.{list_all}
use Rattle.exo_tree.specs.Tree.{Program}
use Rattle.exo_tree.specs.PlainProcedure.{procedure}
use Rattle.exo_reader.specs.Views.{plain_window}
use Rattle.config_laws.specs.Differing.{Origin}
use Rattle.rules_names.specs.Arguments.{knows_coordinate}
use Rattle.cursor_forward.specs.PlainProposal.{plain_proposal}
use Rattle.alloc_laws.specs.Stage.Staging.{stage_rule}
use Rattle.step_driver.specs.PlainTarget.{target, plain_piece}
use Rattle.schedule_calls.specs.PlainRequest.{plain_asked}
use Rattle.schedule_laws.specs.Versions.Lines as lines
use Rattle.schedule_laws.specs.Operators.Arguments.{staging_at}
use Rattle.schedule_laws.specs.Operators.Places.{block_in}
use Rattle.schedule_laws.specs.Operators.Calls.{window_call}
use Rattle.schedule_run.specs.Outcomes.{Makes}
use Rattle.schedule_run.specs.Planned.{planned}
use Rattle.schedule_run.specs.PlainVersions.{versions}
use Rattle.schedule_run.proofs.Going.{made_failed}
use Rattle.schedule_run.proofs.Asking.{asked_lost, asked_there, known_in}
use Rattle.schedule_run.proofs.staging.stage_mem_at.Goals as goal

pub returns : goal.returns
returns c =
    let v = versions c.args.s.now in
    let k = c.args.on.now.number.0 in
    let p = procedure c.args.on.now.proc.now in
    let w = plain_window c.args.w.now in
    let same : target c.args.on.now ≡ lines.target v k p =
    ap₂ (λ (u : Program) (os : List Origin). record { unit = u; origins = os; number = k; proc = p })
    c.requires.unit c.requires.origins in
    subst (λ m. Makes plain_proposal m c.staged.result)
    (sym
    (asked_there v k p (λ v. list_all (knows_coordinate v.unit.fields) w.1)
    (plain_asked c.args.at.now) block_in
    (λ v t piece. record {
      rule = stage_rule piece.count (staging_at t piece.path w c.args.name.now c.args.accum);
      at = piece.path;
    })
    (target c.args.on.now) same
    (known_in v k p (target c.args.on.now) same (λ fs. list_all (knows_coordinate fs) w.1)
    c.in_ok-window_known.ensures)
    (plain_piece c.in_ok-piece.piece) c.in_ok-piece.ensures))
    c.staged.ensures

pub returns-in_err-piece : goal.returns-in_err-piece
returns-in_err-piece c =
    let v = versions c.args.s.now in
    let k = c.args.on.now.number.0 in
    let p = procedure c.args.on.now.proc.now in
    let w = plain_window c.args.w.now in
    let same : target c.args.on.now ≡ lines.target v k p =
    ap₂ (λ (u : Program) (os : List Origin). record { unit = u; origins = os; number = k; proc = p })
    c.requires.unit c.requires.origins in
    let e = c.in_err-piece.field-0.0 in
    made_failed plain_proposal
    (planned v k p
    (window_call (plain_asked c.args.at.now) w c.args.name.now c.args.accum stage_rule))
    c.from_residual-in_err-piece.result e c.from_residual-in_err-piece.ensures.1
    (asked_lost v k p (λ v. list_all (knows_coordinate v.unit.fields) w.1)
    (plain_asked c.args.at.now) block_in
    (λ v t piece. record {
      rule = stage_rule piece.count (staging_at t piece.path w c.args.name.now c.args.accum);
      at = piece.path;
    })
    (known_in v k p (target c.args.on.now) same (λ fs. list_all (knows_coordinate fs) w.1)
    c.in_ok-window_known.ensures)
    e c.in_err-piece.ensures)
