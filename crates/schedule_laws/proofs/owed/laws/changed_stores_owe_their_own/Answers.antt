use Rattle.schedule_laws.proofs.OfOwed.StoreOwes.{store_owes}
use Rattle.schedule_laws.proofs.owed.laws.changed_stores_owe_their_own.Goals as goal

pub returns : goal.returns
returns c =
    store_owes c.opened_blocks_are_there.ensures c.well_formed_calls_are_below.ensures
    c.procedures_keep_rules.ensures
