use Rattle.std.proofs.Common.{drop, arith}
use Rattle.std.proofs.lemmas.List.{drop_all}
use Rattle.exo_tree.specs.Tree.{block}
use Rattle.proc_laws.specs.Expression.Passes.{without}
use Rattle.proc_rewrites.proofs.OfExpressions.Cleared.{kept_all}
use Rattle.proc_rewrites.proofs.expressions.clearing.+clearing.Goals as goal

pub kept-returns : goal.kept-returns
kept-returns t c =
    let b = c.args.b.now in
    kept_all c.loop-k.made (drop c.loop-k.k b) (without (block b)) c.loop-k.invariant
    (drop_all c.loop-k.k b (omega (arith, c.len-k-end.ensures, c.loop-k-test.false)))
