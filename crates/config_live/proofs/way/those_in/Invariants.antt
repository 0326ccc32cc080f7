use Rattle.std.specs.Prelude.{◌&&◌, [], drop}
use Rattle.config_state.specs.FieldSets.{contains}
use Rattle.config_laws.specs.FieldRule.{is_listed}
use Rattle.config_live.specs.Listed.{Listed}
use Rattle.config_live.proofs.way.those_in.Given as goal

-- what is left would add to the list what all would add to an empty one
abbrev pub invariant-loop-f : goal.invariant-loop-f
invariant-loop-f l =
    (new : _) → Listed (λ f. is_listed f (drop l.f-index l.f-items) && contains l.set f) l.kept new
    → Listed (λ f. is_listed f l.list && contains l.set f) [] new
