use Rattle.affine_forms.proofs.RowSums.{negated, negated_within}
use Rattle.affine_forms.proofs.linear.Draft.negated.Goals as goal

pub scaled-requires : goal.scaled-requires
scaled-requires c = negated_within c.self.inside.constant c.self.inside.terms c.self.invariant.0

pub invariant_of-result : goal.invariant_of-result
invariant_of-result c =
    let k = negated c.self.inside.constant c.self.inside.terms c.self.invariant.0
    c.self.invariant.1 c.in_ok-scaled.ensures in
    (rw (k.opposed.number, k.opposed.opposite) k.short, k.distinct)
