-- What is left decides.
use Rattle.std.proofs.Common.{◌≡◌, not, drop}
use Rattle.exo_tree.specs.PlainBinder.{binding}
use Rattle.exo_meaning.specs.Units as units
use Rattle.tree_findings.specs.Seen.{scope_in}
use Rattle.tree_findings.proofs.Scopes.{clashes}
use Rattle.tree_findings.proofs.scope.is_new.Given as goal

abbrev pub invariant-loop-entry : goal.invariant-loop-entry
invariant-loop-entry l = not (clashes (binding l.x) (drop l.entry-index l.entries)) ≡ units.is_new (scope_in l.entries) (binding l.x)
