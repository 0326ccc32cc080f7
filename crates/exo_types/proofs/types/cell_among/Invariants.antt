-- The words that are left decide.
use Rattle.std.proofs.Common.{◌≡◌, length, map}
use Rattle.exo_tree.specs.PlainBinder.{cell_type}
use Rattle.exo_types.specs.TypeRules.{cell_among}
use Rattle.exo_types.proofs.types.cell_among.Given as goal

abbrev pub invariant-loop-words : goal.invariant-loop-words
invariant-loop-words l =
    cell_among (map (λ w. (w.0.now, cell_type w.1)) l.words) l.name
    ≡ cell_among (map (λ w. (w.0.now, cell_type w.1)) l.initial.words) l.name

abbrev pub decreases-loop-words : goal.decreases-loop-words
decreases-loop-words l = length l.words
