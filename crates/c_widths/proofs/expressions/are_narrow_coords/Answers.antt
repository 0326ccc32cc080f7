use Rattle.std.proofs.Common.{◌∙◌, refl, sym}
use Rattle.exo_tree.specs.PlainControl.{coordinate}
use Rattle.c_widths.specs.Widths.{is_narrow_coord, are_narrow_coords}
use Rattle.c_widths.specs.Bounds.{most_in}
use Rattle.c_widths.proofs.Rest.{left_on, left_off, left_none}
use Rattle.c_widths.proofs.expressions.are_narrow_coords.Goals as goal

pub returns-then-not-is_narrow_coord : goal.returns-then-not-is_narrow_coord
returns-then-not-is_narrow_coord c =
    let most = most_in c.args.bounds.now in
    left_off coordinate (is_narrow_coord most) (are_narrow_coords most) (λ x xs. refl)
    c.as_slice-c-items.result.now c.loop-c.c-index c.c-item.result _ c.loop-c-test.true
    c.c-item.is (sym c.is_narrow_coord.ensures ∙ c.if-not-is_narrow_coord.true)
    c.loop-c.invariant

pub loop-c-preserved : goal.loop-c-preserved
loop-c-preserved c =
    let most = most_in c.args.bounds.now in
    left_on coordinate (is_narrow_coord most) (are_narrow_coords most) (λ x xs. refl)
    c.as_slice-c-items.result.now c.loop-c.c-index c.c-item.result _ c.loop-c-test.true
    c.c-item.is (sym c.is_narrow_coord.ensures ∙ c.if-not-is_narrow_coord.false)
    c.loop-c.invariant

pub returns : goal.returns
returns c = left_none coordinate (are_narrow_coords (most_in c.args.bounds.now))
    c.as_slice-c-items.result.now c.loop-c.c-index _ refl c.loop-c-test.false c.loop-c.invariant
