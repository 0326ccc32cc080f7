use Rattle.std.proofs.Common.{◌∙◌, ◌+◌, sym, ap, drop}
use Rattle.affine_forms.specs.PlainAtoms.{plain_terms}
use Rattle.affine_forms.proofs.TermLists.{plain_drop, plain_end}
use Rattle.affine_systems.specs.PlainMade.{plain_made}
use Rattle.affine_systems.proofs.Gathered.{atoms_added}
use Rattle.affine_systems.proofs.gathering.Gathering.add_atoms.Goals as goal

pub loop-w-preserved : goal.loop-w-preserved
loop-w-preserved c =
    ap (λ m. atoms_added m (plain_terms (drop (c.loop-w.w-index + 1) c.as_slice-w-items.result.now))) c.in_ok-add_atom.ensures
    ∙ sym (ap (atoms_added (plain_made c.loop-w.self)) (plain_drop c.as_slice-w-items.result.now c.loop-w.w-index c.w-item.result c.loop-w-test.true c.w-item.is))
    ∙ c.loop-w.invariant

pub returns : goal.returns
returns c = ap (atoms_added (plain_made c.loop-w.self)) (sym (plain_end c.as_slice-w-items.result.now c.loop-w.w-index c.loop-w-test.false)) ∙ c.loop-w.invariant
