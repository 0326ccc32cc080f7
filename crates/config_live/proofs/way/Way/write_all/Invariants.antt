use Rattle.std.specs.Prelude.{drop}
use Rattle.config_laws.specs.FieldRule.{is_listed}
use Rattle.config_live.specs.Ways.{nothing, Goes}
use Rattle.config_live.proofs.way.Way.write_all.Given as goal

-- where writes of what is left lead on, writes of all led from the first way
abbrev pub invariant-loop-f : goal.invariant-loop-f
invariant-loop-f l =
    (new has : _) → Goes nothing (λ f. is_listed f (drop l.f-index l.f-items)) l.self new l.added has
    → Goes nothing (λ f. is_listed f l.list) l.initial.self new l.initial.added has
