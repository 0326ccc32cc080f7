use Rattle.std.specs.Prelude.{◌&&◌, not, drop}
use Rattle.config_state.specs.FieldSets.{Changed}
use Rattle.config_laws.specs.FieldRule.{is_listed}
use Rattle.config_live.proofs.way.take_out.Given as goal

-- what is left would take from the set what all would take from the set as it was
abbrev pub invariant-loop-f : goal.invariant-loop-f
invariant-loop-f l =
    (new : _) → Changed (λ f held. held && not (is_listed f (drop l.f-index l.f-items))) l.set new
    → Changed (λ f held. held && not (is_listed f l.list)) l.initial.set new
