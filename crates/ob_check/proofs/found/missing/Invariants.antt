use Rattle.std.proofs.Common.{◌≡◌, ◌++◌, map, drop}
use Rattle.affine_forms.specs.System.{plain_system}
use Rattle.ob_check.specs.Systems.{missing_of}
use Rattle.ob_check.proofs.found.missing.Given as goal

abbrev pub invariant-loop-f : goal.invariant-loop-f
invariant-loop-f l = map (λ s. plain_system s.now) l.all.items ++ missing_of (drop l.f-index l.found) ≡ missing_of l.found
