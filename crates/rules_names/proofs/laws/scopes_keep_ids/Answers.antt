use Rattle.rules_names.proofs.Kept.{scope_kept}
use Rattle.rules_names.proofs.laws.scopes_keep_ids.Goals as goal

pub returns : goal.returns
returns c = scope_kept
