use Rattle.std.proofs.Common.{◌≡◌, ◌++◌, drop, map}
use Rattle.exo_tree.specs.PlainControl.{control}
use Rattle.exo_effects.specs.Parts.{all_of}
use Rattle.exo_effects.proofs.parts.Part.whole.Given as goal

abbrev pub invariant-loop-d : goal.invariant-loop-d
invariant-loop-d l = l.coords ++ map all_of (map control (drop l.d-index l.d-items)) ≡ map all_of l.dims
