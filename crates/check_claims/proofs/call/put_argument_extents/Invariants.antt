-- The claims so far, and those of the other arguments.
use Rattle.std.proofs.Common.{◌≡◌, ◌++◌, drop, map}
use Rattle.exo_tree.specs.PlainParam.{parameter}
use Rattle.exo_tree.specs.PlainArgument.{argument}
use Rattle.text_show.specs.Seen.{words_in}
use Rattle.check_claims.specs.Pairs.{flat_zip}
use Rattle.check_claims.specs.Claims.{passed_extents}
use Rattle.check_claims.specs.Seen.{extents_in}
use Rattle.check_claims.proofs.call.put_argument_extents.Given as goal

abbrev pub invariant-loop-k : goal.invariant-loop-k
invariant-loop-k l =
    let f = passed_extents (words_in l.site.words.now) (extents_in l.site.extents.now) l.passed.params.now l.passed.args.now in
    l.out ++ flat_zip f (map parameter (drop l.k l.params)) (map argument (drop l.k l.args)) ≡ l.initial.out ++ flat_zip f (map parameter l.params) (map argument l.args)
