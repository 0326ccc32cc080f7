use Rattle.std.proofs.Common.{◌≡◌, map}
use Rattle.text_expressions.specs.Views.{tree_of}
use Rattle.exo_reader.specs.Windows.{low_of}
use Rattle.exo_reader.specs.Views.{plain_coordinate}
use Rattle.exo_reader.proofs.argument.lows.Given as goal

abbrev pub invariant-loop-coord : goal.invariant-loop-coord
invariant-loop-coord l = map tree_of l.list.items ≡ map low_of (map plain_coordinate l.yielded)
