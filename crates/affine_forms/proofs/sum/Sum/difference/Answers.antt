use Rattle.affine_forms.proofs.RowSums.{short_sum, difference_is}
use Rattle.affine_forms.proofs.sum.Sum.difference.Goals as goal

pub returns : goal.returns
returns c =
    let s = short_sum c.constant.result c.constant-2.result
    c.constant.ensures.short c.constant-2.ensures.short in
    rw (s.left, s.right, s.both)
    (difference_is c.args.left.now c.args.right.now c.constant.ensures.value
    c.constant-2.ensures.value c.in_ok-opposite.ensures c.in_ok-terms_left.ensures.value)

pub invariant_of-result : goal.invariant_of-result
invariant_of-result c =
    let s = short_sum c.constant.result c.constant-2.result
    c.constant.ensures.short c.constant-2.ensures.short in
    let kept = c.in_ok-terms_left.ensures in
    (rw (s.left, s.right, s.both) s.row, kept.narrow, kept.distinct, kept.present)

pub overflow_add-result : goal.overflow_add-result
overflow_add-result c =
    let s = short_sum c.constant.result c.constant-2.result
    c.constant.ensures.short c.constant-2.ensures.short in
    rw (s.left, s.right) s.fits
