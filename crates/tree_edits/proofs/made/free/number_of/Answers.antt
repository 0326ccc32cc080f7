use Rattle.std.proofs.Common.{suc, Some, None, sym, ap, ◌∙◌}
use Rattle.tree_edits.specs.Made.Numbers.{is_number}
use Rattle.tree_edits.proofs.OfMade.Numbers.{stripped, unlike, without_line, with_digits}
use Rattle.std.proofs.Common.{codes}
use Rattle.tree_edits.proofs.made.free.number_of.Goals as goal

pub returns-in_err-tail : goal.returns-in_err-tail
returns-in_err-tail c k small =
    let x = c.args.x.now in
    let name = c.args.name.now in
    unlike x name (stripped x name None c.in_err-tail.ensures.cases) k small
    ∙ ap (λ r. is_number r (suc k)) (sym c.from_residual.ensures)

pub returns-in_err-digits : goal.returns-in_err-digits
returns-in_err-digits c k small =
    let x = c.args.x.now in
    let name = c.args.name.now in
    let tail = c.in_ok-tail.tail in
    without_line x name tail.now (stripped x name (Some tail) c.in_ok-tail.ensures.cases)
    (stripped (codes "_") tail.now None c.in_err-digits.ensures.cases) k small
    ∙ ap (λ r. is_number r (suc k)) (sym c.from_residual-in_err-digits.ensures)

pub returns : goal.returns
returns c =
    let x = c.args.x.now in
    let name = c.args.name.now in
    let tail = c.in_ok-tail.tail in
    let digits = c.in_ok-digits.digits in
    with_digits x name tail.now digits.now c.number_in_digits.result
    (stripped x name (Some tail) c.in_ok-tail.ensures.cases)
    (stripped (codes "_") tail.now (Some digits) c.in_ok-digits.ensures.cases) c.number_in_digits.ensures
