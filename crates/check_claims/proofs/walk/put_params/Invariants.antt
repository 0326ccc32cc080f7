-- The claims so far, and those of the other parameters.
use Rattle.std.proofs.Common.{◌≡◌, ◌++◌, drop, map}
use Rattle.exo_tree.specs.PlainParam.{parameter}
use Rattle.text_show.specs.Seen.{words_in}
use Rattle.check_claims.specs.Claims.{param_claims}
use Rattle.check_claims.proofs.walk.put_params.Given as goal

abbrev pub invariant-loop-p : goal.invariant-loop-p
invariant-loop-p l = l.out ++ param_claims (words_in l.words) (map parameter (drop l.p-index l.params)) ≡ l.initial.out ++ param_claims (words_in l.words) (map parameter l.params)
