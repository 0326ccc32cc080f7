use Rattle.place_laws.proofs.OfScope.Apart.{renamed_mentions}
use Rattle.place_laws.proofs.scope.laws.renamed_mentions.Goals as goal

pub returns : goal.returns
returns c = renamed_mentions
