use Rattle.step_rules.proofs.Meaning.{meaning_is_kept}
use Rattle.step_rules.proofs.laws.lawful_rules_keep_meaning.Goals as goal

pub returns : goal.returns
returns c = meaning_is_kept c.names_of_copies_are_names_alone.ensures c.needs_hold.ensures
