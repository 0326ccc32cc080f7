-- The plain forms of a loop in parts, and of a write.
use Rattle.exo_tree.specs.Tree.{block}
use Rattle.exo_tree.specs.PlainArgument.{argument}
use Rattle.step_targets.specs.PlainLoop.{plain_loop}
use Rattle.loop_laws.specs.Nest.Fission.{Parting, Write}
use Rattle.loop_rewrites.specs.declared.nest.parting.PartingAt.{PartingAt}
use Rattle.loop_rewrites.specs.declared.nest.steady.WriteAt.{WriteAt}

abbrev pub plain_parting : PartingAt → Parting
plain_parting p = record {
  loop = plain_loop p.whole;
  first = block p.first;
  second = block p.second;
}

abbrev pub plain_write : WriteAt → Write
plain_write w = record { field = w.field.0; value = argument w.value.now }
