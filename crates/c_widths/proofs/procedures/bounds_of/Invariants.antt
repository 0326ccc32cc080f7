-- A name has the bound that was made, else that of a parameter that is left.
use Rattle.std.proofs.Common.{◌≡◌, map, get_or}
use Rattle.exo_tree.specs.PlainParam.{parameter}
use Rattle.c_widths.specs.Raises.{most_from}
use Rattle.c_widths.proofs.Growing.{most_before, most_later}
use Rattle.c_widths.proofs.procedures.bounds_of.Given as goal

abbrev pub invariant-loop-i : goal.invariant-loop-i
invariant-loop-i l = most_before l.bounds.items (most_later l.params (λ n. get_or l.given n 0) l.i) ≡ most_from (map parameter l.params) (λ n. get_or l.given n 0)
