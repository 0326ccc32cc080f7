use Rattle.std.proofs.Common.{◌∙◌, refl, sym}
use Rattle.exo_tree.specs.PlainControl.{condition}
use Rattle.c_widths.specs.Widths.{is_narrow_test, are_narrow_tests}
use Rattle.c_widths.specs.Bounds.{most_in}
use Rattle.c_widths.proofs.Rest.{left_on, left_off, left_none}
use Rattle.c_widths.proofs.expressions.are_narrow_tests.Goals as goal

pub returns-then-not-is_narrow_test : goal.returns-then-not-is_narrow_test
returns-then-not-is_narrow_test c =
    let most = most_in c.args.bounds.now in
    left_off condition (is_narrow_test most) (are_narrow_tests most) (λ x xs. refl)
    c.as_slice-c-items.result.now c.loop-c.c-index c.c-item.result _ c.loop-c-test.true
    c.c-item.is (sym c.is_narrow_test.ensures ∙ c.if-not-is_narrow_test.true) c.loop-c.invariant

pub loop-c-preserved : goal.loop-c-preserved
loop-c-preserved c =
    let most = most_in c.args.bounds.now in
    left_on condition (is_narrow_test most) (are_narrow_tests most) (λ x xs. refl)
    c.as_slice-c-items.result.now c.loop-c.c-index c.c-item.result _ c.loop-c-test.true
    c.c-item.is (sym c.is_narrow_test.ensures ∙ c.if-not-is_narrow_test.false)
    c.loop-c.invariant

pub returns : goal.returns
returns c = left_none condition (are_narrow_tests (most_in c.args.bounds.now))
    c.as_slice-c-items.result.now c.loop-c.c-index _ refl c.loop-c-test.false c.loop-c.invariant
