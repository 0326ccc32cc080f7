use Rattle.std.proofs.Common.{◌≡◌, ◌++◌, map, drop, length, true}
use Rattle.affine_forms.specs.Bounds.{are_below}
use Rattle.affine_forms.specs.PlainAtoms.{plain_atom}
use Rattle.affine_forms.specs.System.{plain_row}
use Rattle.affine_systems.specs.Systems.{equations_of, rows_of}
use Rattle.affine_systems.specs.PlainMade.{plain_stated}
use Rattle.affine_systems.proofs.obligation.put_rows.Given as goal

abbrev pub invariant-loop-c : goal.invariant-loop-c
invariant-loop-c l = record {
  equations : map (plain_row (length l.atoms)) l.equations.items ++ equations_of (map plain_atom l.atoms) (map plain_stated (drop l.c-index l.cs)) ≡ map (plain_row (length l.atoms)) l.fn.equations.items ++ equations_of (map plain_atom l.atoms) (map plain_stated l.cs);
  rows : map (plain_row (length l.atoms)) l.rows.items ++ rows_of (map plain_atom l.atoms) (map plain_stated (drop l.c-index l.cs)) ≡ map (plain_row (length l.atoms)) l.fn.rows.items ++ rows_of (map plain_atom l.atoms) (map plain_stated l.cs);
  equations_below : are_below (length l.atoms) (map (λ r. map (λ t. t.variable) r.terms.items) l.equations.items) ≡ true;
  rows_below : are_below (length l.atoms) (map (λ r. map (λ t. t.variable) r.terms.items) l.rows.items) ≡ true;
}
