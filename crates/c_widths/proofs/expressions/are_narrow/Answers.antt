use Rattle.std.proofs.Common.{◌∙◌, ap, refl, sym}
use Rattle.std.specs.Prelude.{not}
use Rattle.exo_tree.specs.PlainControl.{control}
use Rattle.c_widths.specs.Magnitude.{is_narrow}
use Rattle.c_widths.specs.Widths.{are_narrow}
use Rattle.c_widths.specs.Bounds.{most_in}
use Rattle.c_widths.proofs.Rest.{left_on, left_off, left_none}
use Rattle.c_widths.proofs.expressions.are_narrow.Goals as goal

pub returns-then-is_none : goal.returns-then-is_none
returns-then-is_none c =
    let most = most_in c.args.bounds.now in
    left_off control (is_narrow most) (are_narrow most) (λ x xs. refl) c.as_slice-e-items.result.now
    c.loop-e.e-index c.e-item.result _ c.loop-e-test.true c.e-item.is
    (sym c.magnitude.ensures.there ∙ c.is_none.ensures ∙ ap not c.if-is_none.true) c.loop-e.invariant

pub loop-e-preserved : goal.loop-e-preserved
loop-e-preserved c =
    let most = most_in c.args.bounds.now in
    left_on control (is_narrow most) (are_narrow most) (λ x xs. refl) c.as_slice-e-items.result.now
    c.loop-e.e-index c.e-item.result _ c.loop-e-test.true c.e-item.is
    (sym c.magnitude.ensures.there ∙ c.is_none.ensures ∙ ap not c.if-is_none.false) c.loop-e.invariant

pub returns : goal.returns
returns c = left_none control (are_narrow (most_in c.args.bounds.now)) c.as_slice-e-items.result.now
    c.loop-e.e-index _ refl c.loop-e-test.false c.loop-e.invariant
