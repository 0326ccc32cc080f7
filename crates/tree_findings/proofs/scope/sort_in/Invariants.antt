-- What is left decides.
use Rattle.std.proofs.Common.{◌≡◌, drop}
use Rattle.exo_meaning.specs.Units as units
use Rattle.exo_modes.specs.Sorts.{sort_seen}
use Rattle.tree_findings.specs.Seen.{scope_in}
use Rattle.tree_findings.proofs.Scopes.{sort_among}
use Rattle.tree_findings.proofs.scope.sort_in.Given as goal

abbrev pub invariant-loop-entry : goal.invariant-loop-entry
invariant-loop-entry l = sort_among (drop l.entry-index l.entries) l.x.0 (sort_seen l.found) ≡ units.sort_in (scope_in l.entries) l.x.0
