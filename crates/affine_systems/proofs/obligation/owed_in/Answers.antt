use Rattle.std.proofs.Common.{◌≡◌, ◌∙◌, ◌&&◌, true, [], ◌∷◌, ◌++◌, take, sym, ap, ap₂, subst, map, refl}
use Rattle.std.proofs.lemmas.List.{take_all, map-append}
use Rattle.std.proofs.lemmas.List.Folds.{list_all-append}
use Rattle.std.specs.List.{list_all}
use Rattle.affine_systems.specs.Systems.{system, is_small, stated_in}
use Rattle.affine_systems.specs.PlainCases.{plain_constraint, plain_cases}
use Rattle.affine_systems.specs.Outcomes.{owed, AreOwed}
use Rattle.affine_systems.proofs.CaseLists.{system_at, systems_next}
use Rattle.affine_systems.proofs.Answering.{refused, large_system, all_listed}
use Rattle.affine_systems.proofs.obligation.owed_in.Goals as goal

pub returns-in-Err : goal.returns-in-Err
returns-in-Err c =
    let css = plain_cases c.args.cases.now in
    let at = system_at c.args.cases.now c.loop-case.case-index c.case-item.result css c.loop-case-test.true c.case-item.is refl in
    let same = ap (λ k. system (map plain_constraint k)) c.deref.ensures.value in
    refused c.in-Err.e (system (map plain_constraint c.deref.result.now)) (stated_in css) c.in-Err.ensures (λ small. large_system css c.loop-case.case-index (system (map plain_constraint c.case-item.result.items)) c.requires at.0 at.1 (ap is_small (sym same) ∙ small))

pub returns : goal.returns
returns c =
    let css = plain_cases c.args.cases.now in
    let all = take_all c.loop-case.case-index c.args.cases.now c.loop-case-test.false in
    let small = subst (λ ks. list_all is_small (map system (plain_cases ks)) ≡ true) all c.loop-case.invariant.small in
    subst (λ s. AreOwed c.loop-case.owed.items s c.args.what.now c.args.place.now) (sym (all_listed css c.requires small)) (c.loop-case.invariant.owed ∙ ap (λ ks. map (owed c.args.what.now c.args.place.now) (map system (plain_cases ks))) all)

pub loop-case-preserved : goal.loop-case-preserved
loop-case-preserved c =
    let owes = owed c.args.what.now c.args.place.now in
    let ss = map system (plain_cases (take c.loop-case.case-index c.args.cases.now)) in
    let s = system (map plain_constraint c.case-item.result.items) in
    let same = ap (λ k. system (map plain_constraint k)) c.deref.ensures.value in
    let next = systems_next c.args.cases.now c.loop-case.case-index c.case-item.result c.loop-case-test.true
    c.case-item.is in
    record {
      owed = c.in_ok-owe.ensures ∙ ap₂ (λ os k. os ++ owes k ∷ []) c.loop-case.invariant.owed
          (c.in-Ok.ensures.1 ∙ same) ∙ sym (map-append owes ss (s ∷ [])) ∙ sym (ap (map owes) next);
      small = ap (list_all is_small) next ∙ list_all-append is_small ss (s ∷ [])
          ∙ ap₂ (λ a b. a && (b && true)) c.loop-case.invariant.small (ap is_small (sym same) ∙ c.in-Ok.ensures.0);
    }
