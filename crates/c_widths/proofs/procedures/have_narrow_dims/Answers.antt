use Rattle.std.proofs.Common.{◌∙◌, refl, sym}
use Rattle.exo_tree.specs.PlainParam.{parameter}
use Rattle.c_widths.specs.Widths.{has_narrow_dims, have_narrow_dims}
use Rattle.c_widths.specs.Bounds.{most_in}
use Rattle.c_widths.proofs.Rest.{left_on, left_off, left_none}
use Rattle.c_widths.proofs.procedures.have_narrow_dims.Goals as goal

pub returns-then-not-has_narrow_dims : goal.returns-then-not-has_narrow_dims
returns-then-not-has_narrow_dims c =
    let most = most_in c.args.bounds.now in
    left_off parameter (λ p. has_narrow_dims most p.kind) (have_narrow_dims most) (λ x xs. refl)
    c.as_slice-p-items.result.now c.loop-p.p-index c.p-item.result _ c.loop-p-test.true c.p-item.is
    (sym c.has_narrow_dims.ensures ∙ c.if-not-has_narrow_dims.true) c.loop-p.invariant

pub loop-p-preserved : goal.loop-p-preserved
loop-p-preserved c =
    let most = most_in c.args.bounds.now in
    left_on parameter (λ p. has_narrow_dims most p.kind) (have_narrow_dims most) (λ x xs. refl)
    c.as_slice-p-items.result.now c.loop-p.p-index c.p-item.result _ c.loop-p-test.true c.p-item.is
    (sym c.has_narrow_dims.ensures ∙ c.if-not-has_narrow_dims.false) c.loop-p.invariant

pub returns : goal.returns
returns c =
    left_none parameter (have_narrow_dims (most_in c.args.bounds.now)) c.as_slice-p-items.result.now
    c.loop-p.p-index _ refl c.loop-p-test.false c.loop-p.invariant
