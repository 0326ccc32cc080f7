-- How many of the other pairs are before the end.
use Rattle.std.proofs.Common.{◌≡◌, ◌+◌, drop, map}
use Rattle.exo_tree.specs.PlainProcedure.{procedure}
use Rattle.inplace_laws.specs.Inline.{is_param}
use Rattle.block_matches.specs.Pairs.Held.{ids_in}
use Rattle.block_matches.specs.Pairs.PlainPair.{plain_pair}
use Rattle.block_matches.specs.Held.{partners_in}
use Rattle.block_matches.specs.Kept.{kept}
use Rattle.block_matches.proofs.walked.Walker.kept.Given as goal

abbrev pub invariant-loop-k : goal.invariant-loop-k
invariant-loop-k l =
    let counted = kept (is_param (procedure l.self.callee.now)) (ids_in l.self.bound.now)
    (partners_in l.self.to.now) in
    l.k + counted (ids_in l.seen) (map plain_pair (drop l.k l.pairs))
    ≡ counted (ids_in l.initial.seen) (map plain_pair l.pairs)
