use Rattle.std.proofs.Common.{◌∙◌, ◌+◌, ◌∷◌, sym, ap, map, drop}
use Rattle.std.proofs.lemmas.List.{at_drop_more, at_drop_all}
use Rattle.affine_systems.specs.PlainCases.{plain_constraint}
use Rattle.affine_systems.specs.PlainMade.{plain_made}
use Rattle.affine_systems.specs.Systems.{made_of, with_constraint, all_explained}
use Rattle.affine_systems.proofs.gathering.gathered.Goals as goal

pub loop-c-preserved : goal.loop-c-preserved
loop-c-preserved c =
    let made = plain_made c.loop-c.made in
    let k = plain_constraint c.c-item.result in
    let rest = drop (c.loop-c.c-index + 1) c.args.case.now in
    let explained = c.in_ok-explain_all.ensures ∙ ap (λ ts. all_explained ts made) c.terms.ensures.value in
    ap (λ m. made_of m (map plain_constraint rest)) (c.in_ok-state.ensures ∙ ap (λ m. with_constraint m k) explained)
    ∙ ap (λ x. made_of made (map plain_constraint (x ∷ rest))) c.c-item.is
    ∙ sym (at_drop_more (λ cs. made_of made (map plain_constraint cs)) c.args.case.now c.loop-c.c-index
    c.c-item.result c.loop-c-test.true)
    ∙ c.loop-c.invariant

pub returns : goal.returns
returns c =
    sym (at_drop_all (λ cs. made_of (plain_made c.loop-c.made) (map plain_constraint cs)) c.args.case.now
    c.loop-c.c-index c.loop-c-test.false)
    ∙ c.loop-c.invariant
