use Rattle.meaning_laws.proofs.Fields.{fields_are_kept}
use Rattle.meaning_laws.proofs.laws.fields_are_kept.Goals as goal

pub returns : goal.returns
returns c = fields_are_kept
