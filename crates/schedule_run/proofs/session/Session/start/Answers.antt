use Rattle.std.proofs.Common.{◌≡◌, ◌≤◌, ◌+◌, map, take, length, ap, sym, ◌∙◌, arith}
use Rattle.std.proofs.lemmas.List.{map-append, length_push}
use Rattle.exo_tree.specs.PlainProcedure.{procedure}
use Rattle.schedule_laws.specs.Versions.Versions.{of_text, unmoved, names_from}
use Rattle.config_live.specs.Origins.{origin}
use Rattle.schedule_run.specs.PlainVersions.{binding}
use Rattle.schedule_run.proofs.Lists.{taken_mapped, long}
use Rattle.schedule_run.proofs.Names.{names_more, same_more}
use Rattle.schedule_run.proofs.session.Session.start.Goals as goal

pub loop-p-preserved : goal.loop-p-preserved
loop-p-preserved c =
    let items = c.as_slice-p-items.result.now in
    let k = c.loop-p.p-index in
    let done = take k (map procedure items) in
    let p = procedure c.p-item.result in
    let more = taken_mapped procedure items k c.p-item.result c.p-item.is c.loop-p-test.true in
    let few : k ≤ length items = omega (arith, c.loop-p-test.true) in
    let number : c.in_ok-number.number.0 ≡ length done =
    omega (arith, c.in_ok-number.ensures, c.len.ensures, c.loop-p.invariant.count, long procedure items k few) in
    record {
      origins =
          ap (map origin) c.in_ok-push-2.ensures.items
          ∙ map-append origin c.loop-p.origins.items _
          ∙ same_more done p of_text (map origin c.loop-p.origins.items)
          (origin c.origin_of_text.result) c.loop-p.invariant.origins c.origin_of_text.ensures
          ∙ ap (map (λ p. of_text)) (sym more);
      edits =
          c.in_ok-push-3.ensures.items
          ∙ same_more done p unmoved c.loop-p.edits.items c.unmoved.result
          c.loop-p.invariant.edits c.unmoved.ensures
          ∙ ap (map (λ p. unmoved)) (sym more);
      count =
          ap length c.in_ok-push-2.ensures.items
          ∙ length_push c.loop-p.origins.items c.origin_of_text.result
          ∙ ap (λ n. n + 1) c.loop-p.invariant.count;
      names =
          ap (map binding) c.in_ok-push.ensures.items
          ∙ map-append binding c.loop-p.names.items _
          ∙ names_more done p (map binding c.loop-p.names.items) c.in_ok-name.name
          c.in_ok-number.number.0 c.loop-p.invariant.names c.in_ok-name.ensures number
          ∙ ap (names_from 0) (sym more);
    }
