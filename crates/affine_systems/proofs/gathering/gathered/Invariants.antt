use Rattle.std.proofs.Common.{◌≡◌, map, drop}
use Rattle.affine_systems.specs.Systems.{made_of, nothing}
use Rattle.affine_systems.specs.PlainCases.{plain_constraint}
use Rattle.affine_systems.specs.PlainMade.{plain_made}
use Rattle.affine_systems.proofs.gathering.gathered.Given as goal

abbrev pub invariant-loop-c : goal.invariant-loop-c
invariant-loop-c l = made_of (plain_made l.made) (map plain_constraint (drop l.c-index l.case)) ≡ made_of nothing (map plain_constraint l.case)
