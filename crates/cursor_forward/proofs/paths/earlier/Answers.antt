use Rattle.std.proofs.Common.{◌≡◌, ◌-◌, ◌≤◌, ◌<◌, ◌∙◌, sym, arith}
use Rattle.cursor_forward.proofs.Parts.{earlier_parts, earlier_passed}
use Rattle.cursor_forward.proofs.paths.earlier.Goals as goal

pub returns-in_err-index : goal.returns-in_err-index
returns-in_err-index c =
    let far : c.in_ok-last.last.now.index < c.args.k = grind (arith, c.in_err-index.ensures) in
    c.from_residual-in_err-index.ensures
    ∙ sym (earlier_passed c.args.path.now c.as_slice.result.now c.in_ok-last.up.now c.in_ok-last.last.now c.args.k c.as_slice.ensures.value c.in_ok-last.ensures.cases.0 far)

pub returns : goal.returns
returns c =
    let near : c.args.k ≤ c.in_ok-last.last.now.index = c.in_ok-index.ensures.0 in
    let index : c.in_ok-index.index ≡ c.in_ok-last.last.now.index - c.args.k = c.in_ok-index.ensures.1 in
    rw (← index) c.joined.ensures
    ∙ sym (earlier_parts c.args.path.now c.as_slice.result.now c.in_ok-last.up.now c.in_ok-last.last.now c.args.k c.as_slice.ensures.value c.in_ok-last.ensures.cases.0 c.as_slice.ensures.bound near)
