use Rattle.std.proofs.Common.{map, drop, arith}
use Rattle.exo_tree.specs.PlainParam.{parameter}
use Rattle.exo_tree.specs.PlainArgument.{argument}
use Rattle.c_tree.specs.Plain.{plain_actual}
use Rattle.c_lowering.specs.Made.Lowered.{actuals_of}
use Rattle.c_lowering.specs.Scope.{forms_in}
use Rattle.c_lowering.specs.Naming.{naming_of}
use Rattle.c_lowering.proofs.Lists.{nothing_left}
use Rattle.c_lowering.proofs.Pairs.{actuals_left}
use Rattle.c_lowering.proofs.arguments.lower_actuals.Goals as goal

pub returns : goal.returns
returns c =
    let naming = naming_of c.args.names.now in
    let forms = forms_in c.args.scope.now in
    let ps = c.args.params.now in
    let args = c.args.args.now in
    let k = c.loop-k.k in
    nothing_left (map plain_actual c.loop-k.made.items) (actuals_of naming forms (map parameter (drop k ps)) (map argument (drop k args))) (actuals_of naming forms (map parameter ps) (map argument args)) (actuals_left naming forms parameter argument ps args k (omega (arith, c.loop-k-test.false, c.min-k-end.ensures))) c.loop-k.invariant
