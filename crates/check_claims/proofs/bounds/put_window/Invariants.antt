-- The claims so far, and those of the other coordinates.
use Rattle.std.proofs.Common.{◌≡◌, ◌++◌, drop, map}
use Rattle.exo_tree.specs.PlainControl.{control, coordinate}
use Rattle.text_show.specs.Seen.{words_in}
use Rattle.check_claims.specs.Claims.{window_claims}
use Rattle.check_claims.proofs.bounds.put_window.Given as goal

abbrev pub invariant-loop-k : goal.invariant-loop-k
invariant-loop-k l = l.out ++ window_claims (words_in l.words) (map coordinate (drop l.k l.coords)) (map control (drop l.k l.dims)) ≡ l.initial.out ++ window_claims (words_in l.words) (map coordinate l.coords) (map control l.dims)
