-- The claims so far, and those of the other dimensions.
use Rattle.std.proofs.Common.{◌≡◌, ◌++◌, drop, map}
use Rattle.exo_tree.specs.PlainControl.{control}
use Rattle.text_show.specs.Seen.{words_in}
use Rattle.check_claims.specs.Arguments.{control_under}
use Rattle.check_claims.specs.Claims.{equal_extents}
use Rattle.check_claims.proofs.call.put_equals.Given as goal

abbrev pub invariant-loop-k : goal.invariant-loop-k
invariant-loop-k l =
    let under = control_under l.passed.params.now l.passed.args.now in
    l.out ++ equal_extents (words_in l.words) (map control (drop l.k l.extents)) (map under (map control (drop l.k l.dims))) ≡ l.initial.out ++ equal_extents (words_in l.words) (map control l.extents) (map under (map control l.dims))
