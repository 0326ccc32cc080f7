use Rattle.std.proofs.Common.{◌∙◌, ap}
use Rattle.exo_tree.specs.PlainProcedure.{procedure}
use Rattle.c_lowering.specs.Made.Lowered.{block_of, param_forms}
use Rattle.c_lowering.specs.Naming.{naming_of}
use Rattle.c_printer.proofs.functions.lower_body.Goals as goal

pub returns : goal.returns
returns c = c.in_ok-body.ensures.value ∙ ap (λ f. block_of (naming_of c.args.names.now) f (procedure c.args.p.now).body) (c.in_ok-scope.ensures ∙ ap param_forms c.as_slice.ensures)
