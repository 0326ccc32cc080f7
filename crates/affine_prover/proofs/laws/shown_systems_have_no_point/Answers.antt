use Rattle.std.proofs.lemmas.List.Elements.{recursion_from_All}
use Rattle.affine_prover.proofs.OfRowSets.Widths.{IsWide}
use Rattle.affine_prover.proofs.Meeting.{shown_has_no_point}
use Rattle.affine_prover.proofs.laws.shown_systems_have_no_point.Goals as goal

pub returns : goal.returns
returns c = λ s equations rows.
    shown_has_no_point s (recursion_from_All (IsWide s.variables) s.equations equations) (recursion_from_All (IsWide s.variables) s.rows rows)
