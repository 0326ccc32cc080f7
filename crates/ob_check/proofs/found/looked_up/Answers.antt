use Rattle.std.proofs.Common.{◌≡◌, ◌∷◌, ◌++◌, ◌+◌, map, drop, sym, ap, ◌∙◌}
use Rattle.std.specs.Prelude.{filter, fold}
use Rattle.affine_forms.specs.System.{plain_system}
use Rattle.ob_check.specs.Entries.{asked, is_missing}
use Rattle.ob_check.specs.Held.{held}
use Rattle.ob_check.specs.Systems.{systems_of, system_found, missing_of}
use Rattle.ob_check.proofs.Holding.{is_missing-asked}
use Rattle.ob_check.proofs.Lists.{item_at}
use Rattle.ob_check.proofs.Looking.{more_systems, more_missing}
use Rattle.ob_check.proofs.found.looked_up.Goals as goal

pub loop-o-preserved : goal.loop-o-preserved
loop-o-preserved c =
    let obs = c.args.obs.now in
    let i = c.loop-o.o-index in
    let s = plain_system c.o-item.result.system in
    let rest = systems_of (drop (i + 1) obs) in
    let found = c.look_up-found.result in
    let first = held c.args.cache.now in
    let now = held c.loop-o.cache in
    let one : systems_of (drop i obs) ≡ s ∷ rest = ap systems_of (item_at obs i c.o-item.result c.loop-o-test.true c.o-item.is) in
    record {
      systems = ap (λ fs. map system_found fs ++ rest) c.in_ok-push.ensures.items ∙ more_systems c.loop-o.all.items found s rest (systems_of obs) (ap (λ ss. map system_found c.loop-o.all.items ++ ss) (sym one) ∙ c.loop-o.invariant.systems) c.look_up-found.ensures.system;
      missing = ap (λ fs. missing_of fs ++ filter (is_missing first) rest) c.in_ok-push.ensures.items ∙ more_missing (is_missing first) c.loop-o.all.items found s rest (filter (is_missing first) (systems_of obs)) (ap (λ ss. missing_of c.loop-o.all.items ++ filter (is_missing first) ss) (sym one) ∙ c.loop-o.invariant.missing) c.look_up-found.ensures.system (c.look_up-found.ensures.missing ∙ c.loop-o.invariant.unknown s);
      unknown = λ t. ap (λ es. is_missing es t) c.look_up-found.ensures.asked ∙ is_missing-asked now s t ∙ c.loop-o.invariant.unknown t;
      asked_for = ap (λ es. fold asked es rest) c.look_up-found.ensures.asked ∙ ap (fold asked now) (sym one) ∙ c.loop-o.invariant.asked_for;
    }
