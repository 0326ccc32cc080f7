use Rattle.std.proofs.Common.{◌≡◌, length, take}
use Rattle.std.specs.List.{sum_by}
use Rattle.affine_systems.proofs.list.row_terms.Given as goal

abbrev pub invariant-loop-r : goal.invariant-loop-r
invariant-loop-r l = l.count ≡ sum_by (λ r. length r.terms.items) (take l.r-index l.rows)
