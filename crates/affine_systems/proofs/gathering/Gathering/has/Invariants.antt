use Rattle.std.proofs.Common.{◌≡◌, map, drop}
use Rattle.std.specs.List.{list_any}
use Rattle.affine_forms.specs.Atoms.{same_atom}
use Rattle.affine_forms.specs.PlainAtoms.{plain_atom}
use Rattle.affine_systems.specs.Systems.{stands_in}
use Rattle.affine_systems.proofs.gathering.Gathering.has.Given as goal

abbrev pub invariant-loop-other : goal.invariant-loop-other
invariant-loop-other l = stands_in (map plain_atom l.self.atoms.items) (plain_atom l.atom) ≡ list_any (same_atom (plain_atom l.atom)) (map plain_atom (drop l.other-index l.other-items))
