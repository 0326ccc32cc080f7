use Rattle.std.proofs.Common.{◌≡◌, map, take}
use Rattle.affine_forms.specs.System.{plain_system}
use Rattle.ob_check.specs.Systems.{system_found}
use Rattle.ob_check.proofs.found.peeked.Given as goal

abbrev pub invariant-loop-system : goal.invariant-loop-system
invariant-loop-system l = map system_found l.all.items ≡ map (λ s. plain_system s.now) (take l.system-index l.systems)
