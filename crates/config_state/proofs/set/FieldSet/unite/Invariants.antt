use Rattle.std.proofs.Common.{◌&&◌, nat_lt}
use Rattle.config_state.specs.FieldSets.{contains, Marked}
use Rattle.config_state.proofs.set.FieldSet.unite.Given as goal

abbrev pub invariant-loop-k : goal.invariant-loop-k
invariant-loop-k l = Marked (λ f. nat_lt f l.k && contains l.other f) l.initial.self-inside.held.items l.self-inside.held.items
