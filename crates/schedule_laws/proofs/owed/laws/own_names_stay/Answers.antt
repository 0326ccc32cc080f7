use Rattle.schedule_laws.proofs.OfOwed.Names.{own_names_stay}
use Rattle.schedule_laws.proofs.owed.laws.own_names_stay.Goals as goal

pub returns : goal.returns
returns c = own_names_stay c.procedures_keep_rules.ensures
