use Rattle.exo_types_laws.proofs.OfShown.Instance.{versions_instance}
use Rattle.exo_types_laws.proofs.shown.laws.versions_instance.Goals as goal

pub returns : goal.returns
returns c = versions_instance c.shown_is_the_same.ensures c.named_units_are_writable.ensures
