use Rattle.std.proofs.Common.{◌≡◌, length, get_or, ap, arith}
use Rattle.std.proofs.lemmas.List.Sums.{sum_by_more_le}
use Rattle.affine_forms.specs.declared.system.Row.{Row}
use Rattle.affine_systems.proofs.list.row_terms.Goals as goal

pub overflow_add-count : goal.overflow_add-count
overflow_add-count c =
    let r = c.r-item.result in
    let total = sum_by_more_le (λ (q : Row). length q.terms.items) c.args.rows.now c.loop-r.r-index r c.loop-r-test.true in
    let same : length r.terms.items ≡ length (get_or c.args.rows.now c.loop-r.r-index r).terms.items = ap (λ (q : Row). length q.terms.items) c.r-item.is in
    omega (arith, total, same, c.loop-r.invariant, c.len-count.ensures, r.terms.ok, c.requires)
