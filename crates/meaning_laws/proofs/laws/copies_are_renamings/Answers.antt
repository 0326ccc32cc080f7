use Rattle.meaning_laws.proofs.FreshCopies.{copy_is_renaming}
use Rattle.meaning_laws.proofs.laws.copies_are_renamings.Goals as goal

pub returns : goal.returns
returns c = copy_is_renaming
