-- What is left decides.
use Rattle.std.proofs.Common.{◌≡◌, drop}
use Rattle.exo_tree.specs.PlainBinder.{binding}
use Rattle.tree_edits.specs.Made.Names.{named_by}
use Rattle.tree_edits.specs.Made.Walked.{bindings}
use Rattle.tree_edits.proofs.made.copies.GivenLeaves.binder.Given as goal

abbrev pub invariant-loop-y : goal.invariant-loop-y
invariant-loop-y l = named_by (bindings (drop l.y-index l.self.binders.items)) (binding l.b) ≡ named_by (bindings l.self.binders.items) (binding l.b)
