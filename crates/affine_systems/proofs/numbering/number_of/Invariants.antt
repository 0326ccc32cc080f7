use Rattle.std.proofs.Common.{◌≡◌, ◌+◌, ◌≤◌, map, drop, length}
use Rattle.std.specs.List.{position_or_len}
use Rattle.affine_forms.specs.Atoms.{same_atom}
use Rattle.affine_forms.specs.PlainAtoms.{plain_atom}
use Rattle.affine_systems.proofs.numbering.number_of.Given as goal

abbrev pub invariant-loop-k : goal.invariant-loop-k
invariant-loop-k l = record { place : position_or_len (same_atom (plain_atom l.atom)) (map plain_atom l.atoms) ≡ l.k + position_or_len (same_atom (plain_atom l.atom)) (map plain_atom (drop l.k l.atoms)); inside : l.k ≤ length l.atoms }
