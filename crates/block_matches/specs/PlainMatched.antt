-- The plain form of what a match says.
use Rattle.match_laws.specs.Matched as plain
use Rattle.block_matches.specs.declared.matched.Matched.{Matched}
use Rattle.block_matches.specs.declared.matched.Matched.TheVariants as matched

abbrev pub plain_matched : Matched → plain.Matched
plain_matched (matched.Arguments args) = plain.Arguments args
plain_matched (matched.NoMatch p) = plain.NoMatch p
plain_matched (matched.Undetermined x) = plain.Undetermined x.0
