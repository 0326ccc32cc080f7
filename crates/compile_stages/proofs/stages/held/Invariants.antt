-- What is left decides.
use Rattle.std.proofs.Common.{◌≡◌, None, drop, map, option_map}
use Rattle.schedule_laws.specs.Versions.Versions.{held_after}
use Rattle.schedule_run.specs.PlainVersions.{binding, held}
use Rattle.compile_stages.proofs.stages.held.Given as goal

abbrev pub invariant-loop-binding : goal.invariant-loop-binding
invariant-loop-binding l =
    held_after (option_map (λ h. held h.now) l.found) (map binding (drop l.binding-index l.names)) l.name
    ≡ held_after None (map binding l.names) l.name
