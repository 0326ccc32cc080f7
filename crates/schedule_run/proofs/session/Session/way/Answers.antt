use Rattle.std.proofs.Common.{◌≡◌, ◌-◌, ◌∷◌, [], ◌++◌, ℕ, List, suc, map, sym, ap, ◌∙◌, arith}
use Rattle.std.specs.Prelude.{option_map}
use Rattle.std.proofs.lemmas.List.{map-append}
use Rattle.exo_tree.specs.declared.number.ProcId.{ProcId}
use Rattle.schedule_run.specs.Ways.{way_to}
use Rattle.schedule_run.specs.PlainVersions.{versions}
use Rattle.schedule_run.proofs.Climbing.{apart, way_up, behind}
use Rattle.schedule_run.proofs.session.Session.way.Goals as goal

pub loop-left-preserved : goal.loop-left-preserved
loop-left-preserved c =
    let v = versions c.args.self.now in
    let left = c.loop-left.left in
    let from = c.args.from.0 in
    let at = c.loop-left.at.0 in
    let known = map (λ (j : ProcId). j.0) c.loop-left.way.items in
    let rest = way_to v (left - 1) from c.in-Some.above.0 in
    let one : left ≡ suc (left - 1) = omega (arith, c.loop-left-test.true) in
    let pushed : map (λ (j : ProcId). j.0) c.push.new.self.items ≡ known ++ at ∷ [] =
    ap (map (λ (j : ProcId). j.0)) c.in_ok-push-in-Some.ensures.items
    ∙ map-append (λ (j : ProcId). j.0) c.loop-left.way.items (c.loop-left.at ∷ []) in
    c.loop-left.invariant
    ∙ ap (option_map (λ (more : List ℕ). known ++ more))
    (way_up v from left (left - 1) at c.in-Some.above.0 one (apart c.loop-left.at.0 c.args.from.0 c.if-at-from.false) (sym c.in-Some.ensures))
    ∙ behind v known at rest
    ∙ ap (λ ks. option_map (λ (more : List ℕ). ks ++ more) rest) (sym pushed)
