use Rattle.match_laws.proofs.Widths.{width_law}
use Rattle.match_laws.proofs.laws.short_matches_are_matches.Goals as goal

pub returns : goal.returns
returns c = width_law
