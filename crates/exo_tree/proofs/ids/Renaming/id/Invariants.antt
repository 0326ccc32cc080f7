use Rattle.std.proofs.Common.{◌≡◌, ◌+◌, drop}
use Rattle.exo_tree.specs.Renaming.{fresh_id}
use Rattle.exo_tree.proofs.ids.Renaming.id.Given as goal

abbrev pub invariant-loop-k : goal.invariant-loop-k
invariant-loop-k l = fresh_id (drop l.k l.ids) (l.self.next + l.k) l.x.0 ≡ fresh_id l.ids l.self.next l.x.0
