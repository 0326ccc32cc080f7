use Rattle.unit_check.proofs.Shown.{shown_procedures_do_not_fault}
use Rattle.unit_check.proofs.laws.shown_procedures_do_not_fault.Goals as goal

pub returns : goal.returns
returns c =
    shown_procedures_do_not_fault c.procedures_may_run.ensures c.claims_are_formed.ensures c.claims_suffice.ensures c.shown_conditions_hold.ensures c.pairs_are_apart.ensures
