use Rattle.std.proofs.Common.{◌≡◌, ◌≤◌, length}
use Rattle.affine_systems.specs.PlainCases.{plain_constraint, plain_cases}
use Rattle.affine_systems.proofs.Products.{behind}
use Rattle.affine_systems.proofs.case.with_constraint.Given as goal

abbrev pub invariant-loop-k : goal.invariant-loop-k
invariant-loop-k l = record {
  done : plain_cases l.cases.items ≡ behind l.k (plain_constraint l.c) (plain_cases l.fn.cases.items);
  len : length l.cases.items ≡ length l.fn.cases.items;
  inside : l.k ≤ length l.fn.cases.items;
}
