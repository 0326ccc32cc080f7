use Rattle.std.proofs.Common.{◌≡◌, map, drop}
use Rattle.match_laws.specs.Matched.{first_difference}
use Rattle.match_laws.specs.Widths.{walk_is_short}
use Rattle.block_matches.specs.Pairs.PlainPair.{plain_pair}
use Rattle.block_matches.specs.PlainMoving.{plain_moving}
use Rattle.block_matches.proofs.comparing.first_difference.Given as goal

abbrev pub invariant-loop-pair : goal.invariant-loop-pair
invariant-loop-pair g l =
    let at = g.R.Reader.reading l.reader in
    let m = plain_moving l.by in
    let all = map plain_pair l.pairs in
    let rest = map plain_pair (drop l.pair-index l.pairs) in
    (first_difference at m all ≡ first_difference at m rest)
    × (walk_is_short at m all ≡ walk_is_short at m rest)
