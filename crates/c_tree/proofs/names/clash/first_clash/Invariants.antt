-- What stands from a place on decides.
use Rattle.std.proofs.Common.{◌≡◌, ◌≤◌, drop, length}
use Rattle.std.specs.Option.{option_copied}
use Rattle.c_tree.specs.Names.Clash.{first_clash}
use Rattle.c_tree.specs.Names.Held.{names_in}
use Rattle.c_tree.specs.Names.Words.{is_in}
use Rattle.c_tree.proofs.names.clash.first_clash.Given as goal

abbrev pub invariant-loop-k : goal.invariant-loop-k
invariant-loop-k l =
    (option_copied l.found ≡ first_clash (drop l.k l.globals))
    × (names_in l.later ≡ is_in (drop l.k l.globals))
    × (l.k ≤ length l.globals)

abbrev pub decreases-loop-k : goal.decreases-loop-k
decreases-loop-k l = l.k
