use Rattle.unit_check.proofs.Caching.{only_ok}
use Rattle.unit_check.proofs.Parted.{plain_taken}
use Rattle.unit_check.proofs.showing.show_part.Goals as goal

pub returns-in-Ok-clause-taken : goal.returns-in-Ok-clause-taken
returns-in-Ok-clause-taken g c = λ es ss h.
    only_ok c.answered.result (plain_taken c.args.part.now es ss _ _ (c.in-Ok.ensures.taken es ss h))
