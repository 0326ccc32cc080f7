use Rattle.std.proofs.Common.{sym, subst}
use Rattle.cursor_forward.specs.PlainProposal.{cause_of}
use Rattle.step_rules.specs.Rule.{Tried}
use Rattle.step_driver.specs.Outcomes.{Tries}
use Rattle.step_driver.specs.PlainTarget.{target, plain_piece}
use Rattle.step_driver.specs.Spots.{spot_at}
use Rattle.loop_laws.specs.UnrollLoop.{Unrolling, unrolling}
use Rattle.step_targets.specs.PlainLoop.{plain_loop}
use Rattle.loop_rewrites.specs.PlainTurns.{plain_turns}
use Rattle.loop_rewrites.proofs.Asked.{refused_so}
use Rattle.loop_rewrites.proofs.Bounds.{not_turned, turned, not_affine}
use Rattle.loop_rewrites.proofs.constants.turns_at.Goals as goal

pub returns-in_err-turns_in-in-Some : goal.returns-in_err-turns_in-in-Some
returns-in_err-turns_in-in-Some c =
    let b = (spot_at (target c.args.on.now) (plain_piece c.args.piece.now)).opened.piece in
    let e = c.in_err-turns_in-in-Some.field-0.0 in
    refused_so plain_turns (unrolling b) c.from_residual.result e c.from_residual.ensures.1
    (not_turned b (plain_loop c.in-Some.l) c.in-Some.ensures (sym c.if-not-has_affine_bounds.ensures)
    (cause_of e) c.in_err-turns_in-in-Some.ensures)

pub returns-in_ok-turns_in-in-Some : goal.returns-in_ok-turns_in-in-Some
returns-in_ok-turns_in-in-Some c =
    let b = (spot_at (target c.args.on.now) (plain_piece c.args.piece.now)).opened.piece in
    subst (λ (t : Tried Unrolling). Tries plain_turns t c.few_together.result)
    (turned b (plain_loop c.in-Some.l) c.in-Some.ensures (sym c.if-not-has_affine_bounds.ensures)
    (plain_turns c.in_ok-turns_in-in-Some.field-0) c.in_ok-turns_in-in-Some.ensures) c.few_together.ensures

pub returns-then-not-has_affine_bounds : goal.returns-then-not-has_affine_bounds
returns-then-not-has_affine_bounds c =
    let b = (spot_at (target c.args.on.now) (plain_piece c.args.piece.now)).opened.piece in
    not_affine b (plain_loop c.in-Some.l) c.in-Some.ensures (sym c.if-not-has_affine_bounds.ensures)
