use Rattle.std.specs.Prelude.{drop}
use Rattle.config_laws.specs.FieldRule.{is_listed}
use Rattle.config_live.specs.Ways.{nothing, Went}
use Rattle.config_live.proofs.way.Way.read_all.Given as goal

-- where reads of what is left lead on, reads of all led from the first way
abbrev pub invariant-loop-f : goal.invariant-loop-f
invariant-loop-f l =
    (new : _) → Went (λ f. is_listed f (drop l.f-index l.f-items)) nothing l.self new
    → Went (λ f. is_listed f l.list) nothing l.initial.self new
