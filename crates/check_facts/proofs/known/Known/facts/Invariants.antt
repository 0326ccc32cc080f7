use Rattle.std.proofs.Common.{◌≡◌, ◌≤◌, ◌-◌}
use Rattle.check_facts.specs.Contexts.{facts_from}
use Rattle.check_facts.specs.Tables.{known_in}
use Rattle.check_facts.proofs.known.Known.facts.Given as goal

abbrev pub invariant-loop-f : goal.invariant-loop-f
invariant-loop-f l = (l.facts ≡ facts_from l.f (l.count - l.f) (known_in l.self)) × (l.f ≤ l.count)

abbrev pub decreases-loop-f : goal.decreases-loop-f
decreases-loop-f l = l.f
