use Rattle.exo_types_laws.proofs.OfShown.Instance.{names_instance}
use Rattle.exo_types_laws.proofs.shown.laws.names_instance.Goals as goal

pub returns : goal.returns
returns c = names_instance c.named_units_are_writable.ensures
