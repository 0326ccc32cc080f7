use Rattle.std.proofs.Common.{◌≤◌, ◌++◌, min, length, map, ap, ◌∙◌, arith}
use Rattle.std.proofs.lemmas.List.{length-map, drop-map}
use Rattle.exo_tree.specs.PlainParam.{parameter}
use Rattle.exo_tree.specs.PlainArgument.{argument}
use Rattle.exo_effects.specs.PlainUses.{plain_uses}
use Rattle.exo_effects.specs.PlainWalk.{inside_of, modes_by, arguments_uses}
use Rattle.exo_effects.proofs.Arguments.{argued_off}
use Rattle.exo_effects.proofs.uses.put_arguments.Goals as goal

pub returns : goal.returns
returns c =
    let f = arguments_uses c.args.site.now (inside_of c.args.inside.now) (modes_by c.args.site.now c.args.callee.0) in
    let ps = map parameter c.args.params.now in
    let args = map argument c.args.args.now in
    let h : min (length ps) (length args) ≤ c.loop-k.k = omega (arith, c.loop-k-test.false, c.min-k-end.ensures, length-map c.args.params.now parameter, length-map c.args.args.now argument) in
    argued_off c.args.site.now (inside_of c.args.inside.now) (modes_by c.args.site.now c.args.callee.0) (plain_uses c.loop-k.out.items) _ ps args c.loop-k.k h
    (ap (λ l. plain_uses c.loop-k.out.items ++ l) (λ i. f (drop-map parameter c.loop-k.k c.args.params.now i) (drop-map argument c.loop-k.k c.args.args.now i)) ∙ c.loop-k.invariant)
