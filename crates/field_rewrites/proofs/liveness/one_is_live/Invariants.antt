use Rattle.std.proofs.Common.{◌≡◌, drop, map}
use Rattle.config_live.specs.Origins.{number}
use Rattle.field_rewrites.specs.Beside.{one_is_live}
use Rattle.field_rewrites.proofs.liveness.one_is_live.Given as goal

-- none of those that were asked is live
abbrev pub invariant-loop-f : goal.invariant-loop-f
invariant-loop-f l =
    one_is_live l.on l.piece (map number l.fields)
    ≡ one_is_live l.on l.piece (map number (drop l.f-index l.fields))
