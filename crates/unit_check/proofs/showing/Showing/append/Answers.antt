use Rattle.std.proofs.Common.{[], rules}
use Rattle.unit_check.proofs.Parted.{shown_behind, shown_still}
use Rattle.unit_check.proofs.showing.Showing.append.Goals as goal

pub returns-then-is_ok : goal.returns-then-is_ok
returns-then-is_ok c = λ os ps e d h k.
    shown_behind [] os ps e e _ _ (search rules) (c.put_behind.ensures.exact ps d k)
    (λ ss t. c.put_behind.ensures.taken ss ps e d t k) h

pub returns-else-is_ok : goal.returns-else-is_ok
returns-else-is_ok c = λ os ps e d h k. shown_still [] os ps e _ (search rules) h
