use Rattle.std.proofs.Common.{◌≡◌, ◌∙◌, get_or, sym, ap, subst, IfOk, true}
use Rattle.exo_tree.specs.PlainProcedure.{procedure}
use Rattle.c_widths.specs.Bounds.{most_in}
use Rattle.c_widths.specs.Widths.{have_narrow_dims, are_narrow_tests, is_narrow_block}
use Rattle.c_widths.specs.Raises.{most_from, raised}
use Rattle.c_widths.specs.Given.{given_in, IsChanged}
use Rattle.c_widths.proofs.Whole.{narrow_from}
use Rattle.c_widths.proofs.procedures.fits_procedure.Goals as goal

pub returns-clause-narrow : goal.returns-clause-narrow
returns-clause-narrow c =
    let p = procedure c.args.p.now in
    let most = most_in c.in_ok-bounds.bounds.items in
    let whole = most_from p.params (given_in c.args.given.now c.args.k) in
    let same : most ≡ whole = c.in_ok-bounds.ensures ∙ ap (λ ps. most_from ps (λ i. get_or c.to.result.now i 0)) c.as_slice.ensures ∙ ap (λ (row : _). most_from p.params (λ i. get_or row i 0)) c.to.ensures in
    let dims : have_narrow_dims most p.params ≡ true = ap (λ l. have_narrow_dims (most_in l) p.params) (sym c.deref.ensures.value) ∙ sym c.have_narrow_dims.ensures ∙ c.if-not-have_narrow_dims.false in
    let tests : are_narrow_tests most p.asserts ≡ true = ap (λ l. are_narrow_tests (most_in l) p.asserts) (sym c.deref-else-not-have_narrow_dims.ensures.value) ∙ sym c.are_narrow_tests.ensures ∙ c.if-not-are_narrow_tests.false in
    let body = ap (λ l. is_narrow_block c.args.memories.now (most_in l) p.body) c.deref-2.ensures.value ∙ narrow_from c.args.memories.now p most whole same dims tests in
    subst (λ b. IfOk c.fits_block.result (λ t. t ≡ b)) body c.fits_block.ensures.narrow

pub returns-clause-given : goal.returns-clause-given
returns-clause-given c =
    let p = procedure c.args.p.now in
    let same : most_in c.deref-2.result.now ≡ most_from p.params (given_in c.args.given.now c.args.k) = ap most_in c.deref-2.ensures.value ∙ c.in_ok-bounds.ensures ∙ ap (λ ps. most_from ps (λ i. get_or c.to.result.now i 0)) c.as_slice.ensures ∙ ap (λ (row : _). most_from p.params (λ i. get_or row i 0)) c.to.ensures in
    subst (λ most. IfOk c.fits_block.result (λ t. t ≡ true → IsChanged (raised most p.body) c.args.given.now c.fits_block.new.given)) same c.fits_block.ensures.given
