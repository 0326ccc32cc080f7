use Rattle.schedule_laws.proofs.OfOwed.Owed.{renamed_owes}
use Rattle.schedule_laws.proofs.owed.laws.renamed_versions_owe_the_same.Goals as goal

pub returns : goal.returns
returns c =
    renamed_owes c.opened_blocks_are_there.ensures c.well_formed_calls_are_below.ensures
    c.procedures_keep_rules.ensures
