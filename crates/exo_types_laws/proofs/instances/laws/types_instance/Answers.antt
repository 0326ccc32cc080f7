use Rattle.exo_types_laws.proofs.OfInstances.Instance.{instance}
use Rattle.exo_types_laws.proofs.instances.laws.types_instance.Goals as goal

pub returns : goal.returns
returns c = instance c.text_instance.ensures c.typed_units_are_formed.ensures c.read_units_are_formed.ensures c.typed_units_are_low.ensures c.typed_units_have_dram.ensures
