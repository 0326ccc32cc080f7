-- What is put so far, and the uses of the other arguments.
use Rattle.std.proofs.Common.{◌≡◌, ◌++◌, drop, map}
use Rattle.exo_tree.specs.PlainParam.{parameter}
use Rattle.exo_tree.specs.PlainArgument.{argument}
use Rattle.exo_effects.specs.PlainUses.{plain_uses}
use Rattle.exo_effects.specs.PlainWalk.{inside_of, modes_by, arguments_uses}
use Rattle.exo_effects.proofs.uses.put_arguments.Given as goal

abbrev pub invariant-loop-k : goal.invariant-loop-k
invariant-loop-k l =
    let f = arguments_uses l.site (inside_of l.inside) (modes_by l.site l.callee.0) in
    plain_uses l.out.items ++ f (map parameter (drop l.k l.params)) (map argument (drop l.k l.args))
    ≡ plain_uses l.initial.out.items ++ f (map parameter l.params) (map argument l.args)
