use Rattle.std.proofs.Common.{◌∙◌, ◌++◌, ap, map}
use Rattle.std.proofs.lemmas.List.{take_all}
use Rattle.affine_systems.specs.PlainCases.{plain_constraint, plain_cases}
use Rattle.affine_systems.proofs.CaseLists.{each_next}
use Rattle.affine_systems.proofs.case.push_each.Goals as goal

pub loop-other-preserved : goal.loop-other-preserved
loop-other-preserved c =
    ap (λ ks. plain_cases ks) c.in_ok-push.ensures.items
    ∙ each_next c.args.case.now c.args.others.now c.loop-other.other-index c.other-item.result c.in_ok-both.both
    c.loop-other.made.items (plain_cases c.args.made.now.items) c.loop-other-test.true c.other-item.is
    (c.in_ok-both.ensures ∙ ap (λ k. c.args.case.now ++ k) c.deref.ensures.value) c.loop-other.invariant

pub returns : goal.returns
returns c = c.loop-other.invariant ∙ ap (λ ks. plain_cases c.args.made.now.items ++ map
    (λ k. map plain_constraint c.args.case.now ++ k) (plain_cases ks))
    (take_all c.loop-other.other-index c.args.others.now c.loop-other-test.false)
