use Rattle.std.proofs.Common.{◌≡◌, ◌+◌, ◌≤◌, ◌<◌, ◌∙◌, map, ap, sym, arith}
use Rattle.std.specs.Prelude.{◌^◌, option_and_then}
use Rattle.exo_tree.specs.PlainPlace.{step_taken}
use Rattle.cursor_forward.specs.Shifts.{held}
use Rattle.cursor_forward.proofs.Parts.{beyond_parts, beyond_passed}
use Rattle.cursor_forward.proofs.paths.beyond.Goals as goal

pub returns-in_err-index : goal.returns-in_err-index
returns-in_err-index c =
    let far : 2 ^ 32 ≤ c.in_ok-last.last.now.index + c.args.k = grind (arith, c.in_err-index.ensures) in
    c.from_residual-in_err-index.ensures
    ∙ sym (ap (option_and_then held) (beyond_passed c.args.to.now c.in_ok-last.up.now c.in_ok-last.last.now c.args.k (map step_taken c.args.rest.now) c.in_ok-last.ensures.cases.0 far))

pub returns : goal.returns
returns c =
    let near : c.in_ok-last.last.now.index + c.args.k < 2 ^ 32 = c.in_ok-index.ensures.0 in
    let index : c.in_ok-index.index ≡ c.in_ok-last.last.now.index + c.args.k = c.in_ok-index.ensures.1 in
    rw (← index) c.joined.ensures
    ∙ sym (ap (option_and_then held) (beyond_parts c.args.to.now c.in_ok-last.up.now c.in_ok-last.last.now c.args.k (map step_taken c.args.rest.now) c.in_ok-last.ensures.cases.0 near))
