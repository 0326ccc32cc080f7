use Rattle.meaning_laws.proofs.Live.{runs_forget}
use Rattle.meaning_laws.proofs.laws.dead_fields_are_not_seen.Goals as goal

pub returns : goal.returns
returns c = runs_forget
