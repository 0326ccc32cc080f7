-- What is left to ask.
use Rattle.std.proofs.Common.{◌≡◌, [], map}
use Rattle.config_laws.specs.Differing.{is_descendant, descends}
use Rattle.config_live.specs.Origins.{origin}
use Rattle.config_live.proofs.origins.descends.Given as goal

abbrev pub invariant-loop-left : goal.invariant-loop-left
invariant-loop-left l =
    is_descendant (map origin l.origins) l.fn.k.0 l.fn.from.0
    ≡ descends [] (map origin l.origins) l.fn.from.0 l.left l.at

abbrev pub decreases-loop-left : goal.decreases-loop-left
decreases-loop-left l = l.left
