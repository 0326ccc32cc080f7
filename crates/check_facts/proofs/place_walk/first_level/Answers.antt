use Rattle.std.proofs.Common.{zero, [], sym, ap, subst}
use Rattle.exo_tree.specs.Places.{Main}
use Rattle.meaning_laws.specs.KnownFields.{at_entry}
use Rattle.check_facts.specs.Trails.{StandInside}
use Rattle.check_facts.proofs.Trails.{none_inside}
use Rattle.check_facts.proofs.place_walk.first_level.Goals as goal

pub returns-in-None-clause-stand : goal.returns-in-None-clause-stand
returns-in-None-clause-stand c = λ g body h. (
  λ f lt. ap (λ known. known f) c.new.ensures,
  subst (StandInside g [] Main body zero at_entry) (sym c.in-None.ensures.none) (none_inside g [] Main body zero at_entry),
)
