-- The names behind the first statements.
use Rattle.std.proofs.Common.{◌≡◌, take}
use Rattle.exo_effects.specs.PlainParts.{parts_in}
use Rattle.exo_effects.specs.PlainSpots.{passed_all}
use Rattle.exo_effects.proofs.piece.pass_first.Given as goal

abbrev pub invariant-loop-k : goal.invariant-loop-k
invariant-loop-k l = parts_in l.parts ≡ passed_all (take l.k l.b) (parts_in l.initial.parts)
