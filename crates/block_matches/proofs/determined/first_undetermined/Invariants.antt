-- The first one is among the other parameters.
use Rattle.std.proofs.Common.{◌≡◌, drop, map}
use Rattle.exo_tree.specs.PlainParam.{parameter}
use Rattle.exo_tree.specs.PlainProcedure.{procedure}
use Rattle.inplace_laws.specs.Inline.{is_param}
use Rattle.match_laws.specs.Matched.{first_undetermined}
use Rattle.block_matches.specs.Pairs.PlainPair.{plain_pair}
use Rattle.block_matches.proofs.determined.first_undetermined.Given as goal

abbrev pub invariant-loop-p : goal.invariant-loop-p
invariant-loop-p l =
    let first = first_undetermined (is_param (procedure l.callee)) (map plain_pair l.own) in
    first l.callee.params ≡ first (map parameter (drop l.p-index l.p-items))
