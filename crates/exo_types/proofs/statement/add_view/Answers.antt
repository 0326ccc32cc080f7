use Rattle.std.proofs.Common.{map, ap, ◌∙◌}
use Rattle.exo_meaning.specs.Units.{with_name, view_sort}
use Rattle.exo_reader.specs.Views.{plain_coordinate}
use Rattle.rules_names.specs.Names.{named_in, sort_of, id_in}
use Rattle.exo_modes.specs.Sorts.{sort_meant}
use Rattle.exo_types.specs.TypeRules.{binder}
use Rattle.exo_types.proofs.Broken.{exit, refuses_first, kept_none, kept_err, is_free}
use Rattle.exo_types.proofs.Bound.{viewed}
use Rattle.exo_types.proofs.Walked.{put}
use Rattle.exo_types.proofs.statement.add_view.Goals as goal

pub returns-in_err-keep : goal.returns-in_err-keep
returns-in_err-keep c = exit _ _ _ _ c.from_residual.ensures.1 (refuses_first _ _ _ (kept_err _ _ _ c.test_view-end.ensures.charge c.in_err-keep.ensures))

pub bind_view-requires-clause-new : goal.bind_view-requires-clause-new
bind_view-requires-clause-new c =
    ap (named_in c.args.walk.now.scope) c.as_str-3.ensures
    ∙ is_free c.args.walk.now.scope c.args.n c.args.w.now _ (kept_none _ _ c.test_view-end.ensures.charge c.in_ok-keep.ensures)

pub returns : goal.returns
returns c =
    let walk = c.args.walk.now in
    let sort = c.sort.ensures ∙ ap (λ y. sort_of (named_in walk.scope y)) c.as_str-2.ensures in
    put c.args.context.now walk c.bind_view.new.self _ _ _ c.args.n _ _
    (viewed c.args.context.now walk c.bind_view.new.self c.args.n c.args.w.now c.args.x.now (map plain_coordinate c.args.coords.now) _ _ _ _
    (kept_none _ _ c.test_view-end.ensures.charge c.in_ok-keep.ensures) c.requires.falls
    (c.in_ok-binder.ensures.binder ∙ ap (binder walk.next_id) c.as_str-3.ensures)
    (c.id_in-of.ensures ∙ ap (id_in walk.scope) c.as_str.ensures)
    c.in_ok-window.ensures
    (c.view_sort-sort.ensures ∙ (λ i. view_sort (sort i) (c.spans.ensures i)))
    (c.in_ok-binder.ensures.scope ∙ ap (λ y. with_name walk.scope (binder walk.next_id y) (sort_meant c.view_sort-sort.result)) c.as_str-3.ensures)
    c.in_ok-binder.ensures.roots c.in_ok-binder.ensures.kept c.in_ok-binder.ensures.next c.in_ok-binder.ensures.lines)
    c.in_ok-push.ensures.pushed c.test_view-end.ensures.end
