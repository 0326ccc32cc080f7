use Rattle.std.proofs.Common.{rules}
use Rattle.unit_check.proofs.Parted.{shown_behind, shown_still}
use Rattle.unit_check.proofs.showing.Showing.take.Goals as goal

pub returns-then-is_ok : goal.returns-then-is_ok
returns-then-is_ok g c = λ es os h.
    shown_behind es os _ _ _ _ _ (search rules) c.show_part.ensures.exact
    (c.show_part.ensures.taken es) h

pub returns-else-is_ok : goal.returns-else-is_ok
returns-else-is_ok g c = λ es os h. shown_still es os _ _ _ (search rules) h
