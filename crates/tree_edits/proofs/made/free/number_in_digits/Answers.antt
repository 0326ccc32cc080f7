use Rattle.std.proofs.Common.{◌≡◌, suc, Some, None, slice_get, get_or, sym, ap, ◌∙◌, arith}
use Rattle.tree_edits.specs.Made.Numbers.{is_number}
use Rattle.tree_edits.proofs.OfMade.Numbers.{first_none, first_is, low, not_read, read}
use Rattle.tree_edits.proofs.made.free.number_in_digits.Goals as goal

pub returns-in_err-first : goal.returns-in_err-first
returns-in_err-first c k small =
    let text = c.args.text.now in
    let nothing : None ≡ slice_get text 0 = c.in_err-first.ensures.value ∙ ap (λ z. slice_get z 0) c.as_bytes.ensures.value in
    low text (first_none text nothing) k small ∙ ap (λ r. is_number r (suc k)) (sym c.from_residual.ensures)

pub returns-then-first-le48 : goal.returns-then-first-le48
returns-then-first-le48 c =
    let text = c.args.text.now in
    let first : Some c.in_ok-first.first.now ≡ slice_get text 0 = c.in_ok-first.ensures.value ∙ ap (λ z. slice_get z 0) c.as_bytes.ensures.value in
    let is = first_is text c.in_ok-first.first.now first in
    low text (omega (arith, is, c.if-first-le48.true))

pub returns-in-Ok : goal.returns-in-Ok
returns-in-Ok c =
    let text = c.args.text.now in
    let first : Some c.in_ok-first.first.now ≡ slice_get text 0 = c.in_ok-first.ensures.value ∙ ap (λ z. slice_get z 0) c.as_bytes.ensures.value in
    let is = first_is text c.in_ok-first.first.now first in
    read text c.in-Ok.n c.in-Ok.ensures.value.0 (omega (arith, is, c.if-first-le48.false))

pub returns-in-Err : goal.returns-in-Err
returns-in-Err c = not_read c.args.text.now c.in-Err.field-0 c.in-Err.ensures.value.0
