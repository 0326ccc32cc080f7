-- The claims so far, and those of the other indices.
use Rattle.std.proofs.Common.{◌≡◌, ◌++◌, drop, map}
use Rattle.exo_tree.specs.PlainControl.{control}
use Rattle.text_show.specs.Seen.{words_in}
use Rattle.check_claims.specs.Claims.{index_claims}
use Rattle.check_claims.proofs.bounds.put_indices.Given as goal

abbrev pub invariant-loop-k : goal.invariant-loop-k
invariant-loop-k l = l.out ++ index_claims (words_in l.words) (map control (drop l.k l.at)) (map control (drop l.k l.dims)) ≡ l.initial.out ++ index_claims (words_in l.words) (map control l.at) (map control l.dims)
