-- The names that the other parameters give.
use Rattle.std.proofs.Common.{◌≡◌, drop, map}
use Rattle.exo_tree.specs.PlainParam.{parameter}
use Rattle.text_show.specs.Names.{with_params}
use Rattle.text_show.specs.Seen.{names_in}
use Rattle.text_show.proofs.names.ShownNames.insert_params.Given as goal

abbrev pub invariant-loop-p : goal.invariant-loop-p
invariant-loop-p l = with_params (map parameter (drop l.p-index l.p-items)) (names_in l.self) ≡ with_params l.params (names_in l.initial.self)
