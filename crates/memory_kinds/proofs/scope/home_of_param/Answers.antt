use Rattle.std.proofs.Common.{ap, map}
use Rattle.exo_tree.specs.PlainParam.{parameter}
use Rattle.memory_kinds.proofs.Firsts.{drop_read}
use Rattle.memory_kinds.proofs.Lookups.{param_passed}
use Rattle.memory_kinds.proofs.scope.home_of_param.Goals as goal

pub loop-p-preserved : goal.loop-p-preserved
loop-p-preserved c = param_passed _ _ (parameter c.p-item.result) c.loop-p.home.0 c.home_with-home.result.0 c.args.x.0 _ (ap (map parameter) (drop_read c.args.params.now c.loop-p.p-index c.p-item.result c.p-item.is c.loop-p-test.true)) c.home_with-home.ensures c.loop-p.invariant
