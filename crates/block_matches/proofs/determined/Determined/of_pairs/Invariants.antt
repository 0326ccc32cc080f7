-- What is determined so far, and what the other pairs determine.
use Rattle.std.proofs.Common.{◌≡◌, drop, map}
use Rattle.exo_tree.specs.PlainProcedure.{procedure}
use Rattle.inplace_laws.specs.Inline.{is_param}
use Rattle.match_laws.specs.Matched.{argument_in}
use Rattle.block_matches.specs.Pairs.PlainPair.{plain_pair}
use Rattle.block_matches.specs.Held.{determined_in}
use Rattle.block_matches.specs.Noted.{earlier}
use Rattle.block_matches.proofs.determined.Determined.of_pairs.Given as goal

abbrev pub invariant-loop-pair : goal.invariant-loop-pair
invariant-loop-pair l =
    let params = is_param (procedure l.callee) in
    earlier (determined_in l.found)
    (argument_in params (map plain_pair (drop l.pair-index l.pairs)))
    ≡ argument_in params (map plain_pair l.pairs)
