use Rattle.std.proofs.Common.{ap, arith}
use Rattle.affine_forms.specs.PlainAtoms.{plain_terms}
use Rattle.affine_forms.specs.TermBounds.{count, without_term}
use Rattle.affine_forms.proofs.TermLists.{count_plain, plain_remove, kept_without}
use Rattle.affine_forms.proofs.atom.Terms.remove.Goals as goal

pub remove-requires : goal.remove-requires
remove-requires c =
    let whole = ap count c.self.view_is in
    omega (arith, whole, count_plain c.self.inside.items.items, c.requires)

pub invariant_of-self : goal.invariant_of-self
invariant_of-self c = rw (c.remove.ensures.items, plain_remove c.self.inside.items.items c.args.k) (kept_without c.args.k (plain_terms c.self.inside.items.items) c.self.invariant)

pub returns : goal.returns
returns c = rw (c.remove.ensures.items, plain_remove c.self.inside.items.items c.args.k) (ap (without_term c.args.k) c.self.view_is)
