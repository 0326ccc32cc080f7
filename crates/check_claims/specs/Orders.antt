-- How two sides of a claim compare.
use Rattle.exo_tree.specs.Tree.{Control, Condition, Lt, Le}
use Rattle.check_claims.specs.declared.list.Order.{Order}
use Rattle.check_claims.specs.declared.list.Order.TheVariants.{Below, AtMost}

abbrev pub compared : Order → Control → Control → Condition
compared Below a b = Lt a b
compared AtMost a b = Le a b
