use Rattle.alloc_laws.proofs.OfGoes.Matches.{matches_by_rules}
use Rattle.alloc_laws.proofs.goes.laws.blocks_match_by_rules.Goals as goal

pub returns : goal.returns
returns c = matches_by_rules
