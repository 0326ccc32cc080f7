-- What is left decides.
use Rattle.std.proofs.Common.{◌≡◌, nat_lt, drop}
use Rattle.std.specs.List.{list_all}
use Rattle.tree_findings.proofs.count.are_below.Given as goal

abbrev pub invariant-loop-x : goal.invariant-loop-x
invariant-loop-x l = list_all (λ x. nat_lt x l.most) (drop l.x-index l.ids) ≡ list_all (λ x. nat_lt x l.most) l.ids
