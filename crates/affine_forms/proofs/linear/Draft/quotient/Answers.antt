use Rattle.std.proofs.Common.{◌∙◌, sym, ap}
use Rattle.std.proofs.lemmas.Int.{to_z-of_z}
use Rattle.affine_forms.specs.TermBounds.{are_distinct}
use Rattle.affine_forms.proofs.Distinct.{quotient_distinct}
use Rattle.affine_forms.proofs.linear.Draft.quotient.Goals as goal

pub new-requires : goal.new-requires
new-requires c =
    let fb = c.ranges.by in
    let terms = simp to_z-of_z at c.in_ok-terms.ensures in
    ap are_distinct terms ∙ quotient_distinct c.args.self.now c.args.by (ap (λ l. are_distinct l.terms) (sym c.self.view_is) ∙ c.self.invariant.1)
