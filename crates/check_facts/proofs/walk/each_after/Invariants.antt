use Rattle.exo_tree.specs.PlainStatement.{statement}
use Rattle.meaning_laws.specs.KnownFields.{after}
use Rattle.check_facts.specs.Tables.{known_in}
use Rattle.check_facts.specs.Walks.{telling_of}
use Rattle.check_facts.proofs.Fields.{UpTo}
use Rattle.check_facts.proofs.walk.each_after.Given as goal

abbrev pub invariant-loop-f : goal.invariant-loop-f
invariant-loop-f l = UpTo l.f (after (telling_of l.basis) l.path (statement l.s) (known_in l.initial.known)) (known_in l.initial.known) (known_in l.known)
