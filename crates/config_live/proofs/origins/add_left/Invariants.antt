use Rattle.std.specs.Prelude.{◌&&◌, not, drop}
use Rattle.config_state.specs.FieldSets.{contains, Marked}
use Rattle.config_laws.specs.FieldRule.{is_listed}
use Rattle.config_live.proofs.origins.add_left.Given as goal

-- what is left would add to the set what all would add to the set as it was
abbrev pub invariant-loop-f : goal.invariant-loop-f
invariant-loop-f l =
    (new : _)
    → Marked (λ f. is_listed f (drop l.f-index l.f-items) && not (contains l.written f)) l.set new
    → Marked (λ f. is_listed f l.list && not (contains l.written f)) l.initial.set new
