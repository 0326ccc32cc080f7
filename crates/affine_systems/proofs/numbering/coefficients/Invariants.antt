use Rattle.std.proofs.Common.{◌≡◌, map, drop}
use Rattle.affine_forms.specs.PlainAtoms.{plain_atom, plain_terms}
use Rattle.affine_systems.specs.Systems.{numbered, numbered_onto}
use Rattle.affine_systems.proofs.Numbers.{HasRoom}
use Rattle.affine_systems.proofs.numbering.coefficients.Given as goal

abbrev pub invariant-loop-w : goal.invariant-loop-w
invariant-loop-w l = record {
  sum : numbered_onto (map plain_atom l.atoms) l.all.items (plain_terms (drop l.w-index l.w-items)) ≡ numbered (map plain_atom l.atoms) l.terms;
  room : HasRoom (plain_terms (drop l.w-index l.w-items)) (map plain_atom l.atoms) l.all.items;
}
