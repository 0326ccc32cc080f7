use Rattle.std.proofs.Common.{◌∙◌, ap, sym, arith}
use Rattle.exo_tree.specs.PlainParam.{parameter}
use Rattle.exo_tree.specs.PlainArgument.{argument}
use Rattle.c_tree.specs.CTree.{Plain}
use Rattle.c_lowering.specs.Scope.{forms_in}
use Rattle.c_lowering.specs.Naming.{naming_of}
use Rattle.c_lowering.proofs.Pairs.{none_named_left, passed_over}
use Rattle.c_lowering.proofs.calls.piece_named.Goals as goal

pub loop-k-preserved : goal.loop-k-preserved
loop-k-preserved c =
    sym (passed_over (naming_of c.args.names.now) (forms_in c.args.scope.now) c.args.name.now parameter argument c.args.params.now c.args.args.now c.loop-k.k c.index-params-k.result (omega (arith, c.loop-k-test.true, c.min-k-end.ensures)) (omega (arith, c.loop-k-test.true, c.min-k-end.ensures)) c.index-params-k.is (sym c.is_hole_of.ensures ∙ c.if-is_hole_of.false))
    ∙ c.loop-k.invariant

pub returns : goal.returns
returns c =
    ap Plain c.new.ensures.bytes
    ∙ sym (none_named_left (naming_of c.args.names.now) (forms_in c.args.scope.now) c.args.name.now parameter argument c.args.params.now c.args.args.now c.loop-k.k (omega (arith, c.loop-k-test.false, c.min-k-end.ensures)))
    ∙ c.loop-k.invariant
