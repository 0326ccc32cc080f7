-- What the code's steps say, as stages of the elimination.
use Rattle.std.specs.Prelude.{◌++◌}
use Rattle.affine_prover.specs.RowSets.Settled.{AreSettled}
use Rattle.affine_prover.specs.declared.eliminate.Step.{Step}
use Rattle.affine_prover.specs.declared.eliminate.Step.TheVariants as step
use Rattle.affine_prover.specs.declared.equations.Turn.{Turn}
use Rattle.affine_prover.specs.declared.equations.Turn.TheVariants as turn
use Rattle.affine_prover.specs.Elimination.{Stage, Round}
use Rattle.affine_prover.specs.Elimination.Round.{Finished, Solved, Unsolved}
use Rattle.affine_prover.specs.Elimination.Stage.{Ended, Rows}

abbrev pub stage_of_step : Step → Stage
stage_of_step (step.Ended v) = Ended v
stage_of_step (step.Rows free made) = Rows (free.items ++ made.items)

-- the rows that a step has kept are settled
abbrev pub StepSettled : Step → Type 0
StepSettled (step.Ended v) = Unit {0}
StepSettled (step.Rows free made) = AreSettled free.items

abbrev pub round_of_turn : Turn → Round
round_of_turn (turn.Finished v) = Finished v
round_of_turn (turn.Solved es rows) = Solved es.items rows.items
round_of_turn (turn.Unsolved rows) = Unsolved rows.items
