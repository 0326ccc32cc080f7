use Rattle.compile_stages.proofs.Promise.{checked_is_counted}
use Rattle.compile_stages.proofs.laws.checked_is_counted.Goals as goal

pub returns : goal.returns
returns c =
    checked_is_counted c.checked_units_do_not_fault.ensures
