use Rattle.std.proofs.Common.{length}
use Rattle.rules_names.proofs.scopes.walk.+bind_along.Given as goal

abbrev pub decreases-bind_along : goal.decreases-bind_along
decreases-bind_along l = length l.path.now
