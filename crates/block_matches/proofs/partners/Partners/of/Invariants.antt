-- The partners so far, and those that the other pairs give.
use Rattle.std.proofs.Common.{◌≡◌, drop, map}
use Rattle.match_laws.specs.Matched.{partner}
use Rattle.block_matches.specs.Pairs.PlainPair.{plain_pair}
use Rattle.block_matches.specs.Held.{partners_in}
use Rattle.block_matches.specs.Noted.{earlier}
use Rattle.block_matches.proofs.partners.Partners.of.Given as goal

abbrev pub invariant-loop-pair : goal.invariant-loop-pair
invariant-loop-pair l =
    earlier (partners_in l.found) (partner (map plain_pair (drop l.pair-index l.pairs)))
    ≡ partner (map plain_pair l.pairs)
