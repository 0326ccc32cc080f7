use Rattle.std.proofs.Common.{map, sym, refl, subst, Ok, arith}
use Rattle.std.proofs.lemmas.List.{drop_all}
use Rattle.exo_tree.specs.PlainParam.{parameter}
use Rattle.meaning_laws.specs.Known.{params_facts}
use Rattle.check_facts.specs.Walks.{known_first}
use Rattle.check_facts.proofs.Adding.{Came, none_added}
use Rattle.check_facts.proofs.context.add_params.Goals as goal

pub returns : goal.returns
returns c =
    let none = drop_all c.loop-p.p-index c.as_slice-p-items.result.now (omega (arith, c.loop-p-test.false)) in
    c.loop-p.invariant (Ok tt) c.loop-p.context (subst (λ ps. Came c.args.basis.now (known_first (params_facts (map parameter ps))) c.loop-p.context c.loop-p.context) (sym none) (none_added c.args.basis.now c.loop-p.context c.loop-p.context refl))
