use Rattle.cursor_forward.proofs.Forwarding.{moves_forward}
use Rattle.step_rules.proofs.Meaning.{statements_go}
use Rattle.step_rules.proofs.laws.carrying_rules_forward.Goals as goal

pub returns : goal.returns
returns c = statements_go c.names_of_copies_are_names_alone.ensures moves_forward
