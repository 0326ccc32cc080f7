use Rattle.check_facts.specs.Tables.{known_in}
use Rattle.check_facts.proofs.Fields.{UpTo}
use Rattle.check_facts.proofs.known.Known.duplicate.Given as goal

abbrev pub invariant-loop-f : goal.invariant-loop-f
invariant-loop-f l = UpTo l.f (known_in l.self) (known_in l.initial.copied) (known_in l.copied)
