use Rattle.std.proofs.Common.{subst}
use Rattle.std.specs.Prelude.{ℤ, List}
use Rattle.step_rules.specs.Rule.{Tried}
use Rattle.step_driver.specs.Outcomes.{Tries}
use Rattle.loop_laws.specs.UnrollLoop.{turns_of}
use Rattle.step_targets.specs.PlainLoop.{plain_loop}
use Rattle.loop_rewrites.specs.PlainTurns.{plain_turns, with_turns}
use Rattle.loop_rewrites.proofs.Bounds.{refused_wide, wide_lower, wide_upper, turns_are}
use Rattle.loop_rewrites.proofs.constants.turns_in.Goals as goal
use Rattle.exo_effects.specs.Accesses.{plain_fits}

pub returns-in_err-lo : goal.returns-in_err-lo
returns-in_err-lo c =
    let l = plain_loop c.args.l.now in
    refused_wide plain_turns (with_turns l (turns_of l)) c.from_residual.result c.in_err-lo.field-0.0 (plain_fits l.lo)
    c.from_residual.ensures.1 c.in_err-lo.ensures (wide_lower l)

pub returns-in_err-hi : goal.returns-in_err-hi
returns-in_err-hi c =
    let l = plain_loop c.args.l.now in
    refused_wide plain_turns (with_turns l (turns_of l)) c.from_residual-in_err-hi.result c.in_err-hi.field-0.0 (plain_fits l.hi)
    c.from_residual-in_err-hi.ensures.1 c.in_err-hi.ensures (wide_upper l c.in_ok-lo.ensures.0)

pub returns : goal.returns
returns c =
    let l = plain_loop c.args.l.now in
    subst (λ (ns : Tried (List ℤ)). Tries plain_turns (with_turns l ns) c.turns_by.result)
    (turns_are l c.in_ok-lo.lo c.in_ok-hi.hi c.in_ok-lo.ensures c.in_ok-hi.ensures) c.turns_by.ensures
