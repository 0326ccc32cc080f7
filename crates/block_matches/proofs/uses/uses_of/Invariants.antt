use Rattle.std.proofs.Common.{◌≡◌, take, map}
use Rattle.match_laws.specs.Windows.{uses_of}
use Rattle.block_matches.specs.Pairs.PlainPair.{plain_pair}
use Rattle.block_matches.specs.PlainUse.{plain_use}
use Rattle.block_matches.proofs.uses.uses_of.Given as goal

abbrev pub invariant-loop-pair : goal.invariant-loop-pair
invariant-loop-pair l =
    map plain_use l.uses.items ≡ uses_of l.x.0 (map plain_pair (take l.pair-index l.pairs))
