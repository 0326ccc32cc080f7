use Rattle.std.proofs.Common.{◌∙◌}
use Rattle.unit_check.proofs.Caching.{only_ok, same_discharged}
use Rattle.unit_check.proofs.Listing.{all_hold}
use Rattle.unit_check.proofs.showing.show.Goals as goal

pub returns-in-Ok-clause-shown : goal.returns-in-Ok-clause-shown
returns-in-Ok-clause-shown g c =
    all_hold c.args.obs.now c.in-Ok.answer c.answered.result c.in-Ok.ensures.shown c.answered.ensures.shown

pub returns-in-Ok-clause-cache : goal.returns-in-Ok-clause-cache
returns-in-Ok-clause-cache g c =
    only_ok c.answered.result (c.in-Ok.ensures.held ∙ same_discharged c.args.obs.now _)
