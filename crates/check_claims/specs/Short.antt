-- Blocks whose statements have paths: each block inside has fewer than 2^31 statements. And few parameters.
use Rattle.std.specs.Prelude.{Bool, true, ◌&&◌, ◌^◌, nat_lt, length}
use Rattle.exo_tree.specs.Tree.{Procedure, Statement, Assign, Reduce, Config, Pass, If, For, Alloc, View, Call, Block, end, next}
use Rattle.exo_meaning.specs.Units.{is_short}

abbrev mutual
  pub is_short_inside : Block → Bool
  is_short_inside end = true
  is_short_inside (next a b) = step_is_short a && is_short_inside b

  pub step_is_short : Statement → Bool
  step_is_short (Assign x is e) = true
  step_is_short (Reduce x is e) = true
  step_is_short (Config f a) = true
  step_is_short Pass = true
  step_is_short (If c a b) = (is_short a && is_short_inside a) && (is_short b && is_short_inside b)
  step_is_short (For i lo hi b) = is_short b && is_short_inside b
  step_is_short (Alloc x cell dims memory) = true
  step_is_short (View w x coords) = true
  step_is_short (Call k args) = true

-- each parameter has a number below 2^32
abbrev pub has_few_params : Procedure → Bool
has_few_params p = nat_lt (length p.params) (2 ^ 32)
