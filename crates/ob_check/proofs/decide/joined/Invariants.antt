use Rattle.std.proofs.Common.{◌≡◌, flat_map, All, IsOk}
use Rattle.ob_check.specs.Systems.{known_in}
use Rattle.ob_check.proofs.decide.joined.Given as goal

abbrev pub invariant-loop-part : goal.invariant-loop-part
invariant-loop-part l = (l.all.items ≡ flat_map known_in l.yielded) × All IsOk l.yielded
