use Rattle.std.proofs.Common.{◌≡◌, ◌++◌, drop}
use Rattle.exo_effects.specs.Conflicts.{equations}
use Rattle.effect_conflicts.proofs.meeting.put_equations.Given as goal

abbrev pub invariant-loop-k : goal.invariant-loop-k
invariant-loop-k l = l.into ++ equations (drop l.k-index l.first) l.rest ≡ l.initial.into ++ equations l.first l.second
