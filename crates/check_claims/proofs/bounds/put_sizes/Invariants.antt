-- The claims so far, and those of the other dimensions.
use Rattle.std.proofs.Common.{◌≡◌, ◌++◌, drop, map}
use Rattle.exo_tree.specs.PlainControl.{control}
use Rattle.text_show.specs.Seen.{words_in}
use Rattle.check_claims.specs.Claims.{at_least_one}
use Rattle.check_claims.proofs.bounds.put_sizes.Given as goal

abbrev pub invariant-loop-d : goal.invariant-loop-d
invariant-loop-d l = l.out ++ map (at_least_one (words_in l.words)) (map control (drop l.d-index l.dims)) ≡ l.initial.out ++ map (at_least_one (words_in l.words)) (map control l.dims)
