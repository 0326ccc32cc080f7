use Rattle.std.proofs.Common.{arith}
use Rattle.c_lowering.specs.Scope.{forms_in}
use Rattle.c_lowering.proofs.Scopes.{found_here, passed_by}
use Rattle.c_lowering.proofs.scope.find.Goals as goal

pub returns-then-x-e : goal.returns-then-x-e
returns-then-x-e c = found_here c.args.scope.now c.loop-k.k c.index-scope-scope.result c.args.x.0 (forms_in c.args.scope.now c.args.x.0) (omega arith) c.index-scope-scope.is c.if-x-e.true c.loop-k.invariant

pub loop-k-preserved : goal.loop-k-preserved
loop-k-preserved c = passed_by c.args.scope.now c.loop-k.k c.index-scope-scope.result c.args.x.0 (forms_in c.args.scope.now c.args.x.0) (omega arith) c.index-scope-scope.is c.if-x-e.false c.loop-k.invariant
