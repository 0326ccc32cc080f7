use Rattle.std.proofs.lemmas.Result.{IfOk-weaker}
use Rattle.exo_tree.specs.Tree.{block}
use Rattle.exo_tree.specs.PlainProcedure.{procedure}
use Rattle.call_rewrites.specs.PlainCall.{plain_call}
use Rattle.call_rewrites.specs.PlainIds.{numbered}
use Rattle.call_rewrites.proofs.Inlined.{inlined_is}
use Rattle.call_rewrites.proofs.inlining.inlined.Goals as goal

pub returns : goal.returns
returns c =
    IfOk-weaker c.put.result _ _
    (λ b made. inlined_is c.args.first (plain_call c.args.call.now) (procedure c.args.q.now)
    (numbered c.in_ok-of.field-0) (block b) c.in_ok-of.ensures made)
    c.put.ensures
