use Rattle.std.proofs.Common.{◌≡◌, drop}
use Rattle.affine_forms.specs.PlainAtoms.{plain_terms}
use Rattle.affine_systems.specs.PlainMade.{plain_made}
use Rattle.affine_systems.proofs.Gathered.{atoms_added}
use Rattle.affine_systems.proofs.gathering.Gathering.add_atoms.Given as goal

abbrev pub invariant-loop-w : goal.invariant-loop-w
invariant-loop-w l = atoms_added (plain_made l.self) (plain_terms (drop l.w-index l.w-items)) ≡ atoms_added (plain_made l.fn.self) l.terms
