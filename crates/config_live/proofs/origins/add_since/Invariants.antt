use Rattle.std.proofs.Common.{◌≡◌, length, map}
use Rattle.config_state.specs.FieldSets.{Marked}
use Rattle.config_laws.specs.FieldRule.{is_listed}
use Rattle.config_laws.specs.Differing.{fields_since}
use Rattle.config_live.specs.Origins.{origin}
use Rattle.config_live.proofs.origins.add_since.Given as goal

-- the steps that are left would add to the set what all would add to the set as it was
abbrev pub invariant-loop-left : goal.invariant-loop-left
invariant-loop-left l =
    (length l.set ≡ length l.initial.set)
    × ((new : _)
    → Marked (λ f. is_listed f (fields_since l.unit.procs (map origin l.origins) l.from l.left l.k)) l.set new
    → Marked (λ f. is_listed f (fields_since l.unit.procs (map origin l.origins) l.from l.p l.p)) l.initial.set new)

abbrev pub decreases-loop-left : goal.decreases-loop-left
decreases-loop-left l = l.left
