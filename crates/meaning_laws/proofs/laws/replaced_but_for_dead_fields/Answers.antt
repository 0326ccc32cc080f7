use Rattle.meaning_laws.proofs.ReplaceLive.{live_law}
use Rattle.meaning_laws.proofs.laws.replaced_but_for_dead_fields.Goals as goal

pub returns : goal.returns
returns c = live_law
