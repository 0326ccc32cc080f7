use Rattle.std.proofs.Common.{true, length, map, ap, sym, ◌∙◌}
use Rattle.std.proofs.lemmas.List.{length-map}
use Rattle.exo_tree.specs.PlainBinder.{cell_type}
use Rattle.exo_meaning.specs.Units.{BufferName, with_name}
use Rattle.text_expressions.specs.Views.{tree_of}
use Rattle.exo_reader.specs.Views.{plain_kind}
use Rattle.rules_names.specs.Names.{named_in}
use Rattle.exo_types.specs.TypeRules.{binder}
use Rattle.exo_types.proofs.Broken.{exit, refuses_first, kept_none, kept_err, is_free}
use Rattle.exo_types.proofs.Bound.{allocated}
use Rattle.exo_types.proofs.Walked.{put}
use Rattle.exo_types.proofs.statement.add_alloc.Goals as goal

pub returns-in_err-keep : goal.returns-in_err-keep
returns-in_err-keep c = exit _ _ _ _ c.from_residual.ensures.1 (refuses_first _ _ _ (kept_err _ _ _ c.test_alloc-end.ensures.charge c.in_err-keep.ensures))

pub bind_buffer-requires-clause-new : goal.bind_buffer-requires-clause-new
bind_buffer-requires-clause-new c =
    ap (named_in c.args.walk.now.scope) c.as_str.ensures
    ∙ is_free c.args.walk.now.scope c.args.n c.args.x.now _ (kept_none _ _ c.test_alloc-end.ensures.charge c.in_ok-keep.ensures)

pub returns : goal.returns
returns c =
    let walk = c.args.walk.now in
    put c.args.context.now walk c.bind_buffer.new.self _ _ _ c.args.n _ _
    (allocated c.args.context.now walk c.bind_buffer.new.self c.args.n c.args.x.now (plain_kind c.args.kind.now) (map tree_of c.args.dims.now) c.args.memory.now _ _ _ _ _
    (kept_none _ _ c.test_alloc-end.ensures.charge c.in_ok-keep.ensures)
    (c.in_ok-binder.ensures.binder ∙ ap (binder walk.next_id) c.as_str.ensures)
    c.cell_of-cell.ensures c.in_ok-indices.ensures c.memory_of-home.ensures
    (sym (length-map c.args.dims.now tree_of))
    (c.in_ok-binder.ensures.scope ∙ ap (λ y. with_name walk.scope (binder walk.next_id y) (BufferName (cell_type c.cell_of-cell.result) (length c.args.dims.now) true)) c.as_str.ensures)
    c.in_ok-binder.ensures.roots c.in_ok-binder.ensures.kept c.in_ok-binder.ensures.next c.in_ok-binder.ensures.lines)
    c.in_ok-push.ensures.pushed c.test_alloc-end.ensures.end
