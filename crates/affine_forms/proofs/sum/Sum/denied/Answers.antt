use Rattle.std.proofs.Common.{◌^◌, arith}
use Rattle.affine_forms.proofs.RowSums.{denied_row, opposite_within, opposite_terms, denied_is}
use Rattle.affine_forms.proofs.sum.Sum.denied.Goals as goal

pub scaled-requires : goal.scaled-requires
scaled-requires c =
    opposite_within (2 ^ 64) (2 ^ 126) c.self.inside.terms c.self.invariant.1 (omega arith)

pub invariant_of-result : goal.invariant_of-result
invariant_of-result c =
    let k = denied_row c.self.inside.constant c.self.invariant.0 in
    let ts = opposite_terms c.self.inside.terms c.in_ok-scaled.ensures c.self.invariant.1
    c.self.invariant.2 c.self.invariant.3 in
    (rw (k.opposed.number, k.opposed.opposite, k.less) k.row, ts.0, ts.1, ts.2)

pub returns : goal.returns
returns c =
    let k = denied_row c.self.inside.constant c.self.invariant.0 in
    rw (k.opposed.number, k.opposed.opposite, k.less)
    (denied_is c.self.inside.constant c.self.inside.terms c.in_ok-scaled.ensures c.self.view_is)
