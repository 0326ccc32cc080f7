-- The law of elimination, the contract of a function.
use Rattle.std.specs.Prelude.{◌≡◌}
use Rattle.affine_forms.specs.Affine.{Constraints, HasNoIntegerPoint}
use Rattle.affine_prover.specs.RowSets.Shapes.{AreWide}
use Rattle.affine_prover.specs.Elimination.{elimination}
use Rattle.affine_prover.specs.declared.answer.Verdict.TheVariants.{Shown}

-- a system has no integer point that elimination shows, and whose equations and rows have a
-- coefficient for each variable
abbrev pub ShownSystemsHaveNoPoint : Type 0
ShownSystemsHaveNoPoint =
    (s : Constraints)
    → AreWide s.variables s.equations
    → AreWide s.variables s.rows
    → elimination s ≡ Shown
    → HasNoIntegerPoint s
