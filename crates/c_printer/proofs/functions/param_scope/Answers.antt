use Rattle.std.proofs.Common.{arith}
use Rattle.c_lowering.specs.Scope.{form_of, forms_in}
use Rattle.c_printer.proofs.Parameters.{param_more}
use Rattle.c_printer.proofs.functions.param_scope.Goals as goal

pub loop-k-preserved : goal.loop-k-preserved
loop-k-preserved c = param_more c.args.params.now c.loop-k.k c.index-params-params.result (forms_in c.loop-k.scope.items) (forms_in c.enter.new.scope.items) (form_of c.in_ok-form.form) (omega arith) c.index-params-params.is c.in_ok-form.ensures c.in_ok-enter.ensures.forms c.loop-k.invariant
