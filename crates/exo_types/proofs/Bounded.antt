-- A statement has more tokens than it binds names.
use Rattle.std.proofs.Common.{◌+◌, ◌≤◌, arith}
use Rattle.exo_reader.specs.Source.{Statement, Block, pass, branch, loop, allocate, call, configure, assign, reduce, view, end, next}
use Rattle.exo_types.specs.StatementRules.{statement_width, block_width, else_width, bound, bound_in}

mutual
  pub few_bound : (s : Statement) → bound s + 1 ≤ statement_width s
  few_bound pass = omega arith
  few_bound (branch c a b) = omega (arith, few_bound_in a, few_bound_else b)
  few_bound (loop i low high a) = omega (arith, few_bound_in a)
  few_bound (allocate x type ds m) = omega arith
  few_bound (call f args trailing) = omega arith
  few_bound (configure c x e) = omega arith
  few_bound (assign x ds e) = omega arith
  few_bound (reduce x ds e) = omega arith
  few_bound (view w x cs) = omega arith

  pub few_bound_in : (b : Block) → bound_in b ≤ block_width b
  few_bound_in end = omega arith
  few_bound_in (next s more) = omega (arith, few_bound s, few_bound_in more)

  pub few_bound_else : (b : Block) → bound_in b ≤ else_width b
  few_bound_else end = omega arith
  few_bound_else (next s more) = omega (arith, few_bound s, few_bound_in more)
