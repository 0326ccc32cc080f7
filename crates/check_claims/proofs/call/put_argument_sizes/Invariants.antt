-- The claims so far, and those of the other arguments.
use Rattle.std.proofs.Common.{◌≡◌, ◌++◌, drop, map}
use Rattle.exo_tree.specs.PlainParam.{parameter}
use Rattle.exo_tree.specs.PlainArgument.{argument}
use Rattle.text_show.specs.Seen.{words_in}
use Rattle.check_claims.specs.Pairs.{flat_zip}
use Rattle.check_claims.specs.Claims.{argument_size}
use Rattle.check_claims.proofs.call.put_argument_sizes.Given as goal

abbrev pub invariant-loop-k : goal.invariant-loop-k
invariant-loop-k l =
    let f = argument_size (words_in l.words) in
    l.out ++ flat_zip f (map parameter (drop l.k l.params)) (map argument (drop l.k l.args)) ≡ l.initial.out ++ flat_zip f (map parameter l.params) (map argument l.args)
