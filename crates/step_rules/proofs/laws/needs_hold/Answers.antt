use Rattle.step_rules.proofs.Shown.{needs_hold}
use Rattle.step_rules.proofs.laws.needs_hold.Goals as goal

pub returns : goal.returns
returns c =
    needs_hold c.contexts_hold.ensures c.shown_claims_hold.ensures c.shown_pieces_are_apart.ensures
